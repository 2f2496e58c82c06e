-- A tree of rules is read from its text, and what is read from a text is the tree whose text it is, for the rules of any phase whose words are so.
use Rattle.std.proofs.Common.{◌≡◌, ℕ, suc, Bool, true, false, cond, ◌&&◌, ◌⊎◌, inl, inr, Option, Some, None, Ok, Err, refl, ap, ap₂, sym, subst, ◌∙◌}
use Rattle.std.proofs.lemmas.Bool.{and_parts, and_from, cond-true}
use Rattle.ac_sx.specs.Tree.{Tree, Trees, Atom, Node, no_trees, more}
use Rattle.c_values.specs.Name.{Name}
use Rattle.expression_text.specs.Lists.{joined}
use Rattle.expression_text.specs.Reading.{Read, next, ◌>>=◌}
use Rattle.expression_text.proofs.Behind.{behind, IsReadAs, AreReadAs, bind_ok, kept_ok, value_ok}
use Rattle.rule_trees.specs.RuleTree as rules
use Rattle.rule_text.specs.declared.arity.Arity.{Arity}
use Rattle.rule_text.specs.Arities.{fits}
use Rattle.rule_text.specs.RuleText.{word_with, rule_tree, rule_trees, is_tree, are_trees}
use Rattle.rule_text.specs.RuleReading.{Given, Words, count, leaf_at, tree_at, list_at, trees_at}

module _ {Rule : Type 0} (word : Rule → Name) (data' : Rule → Trees) (has_text : Rule → Bool) (words : Words Rule) where
  -- a rule is found by its word; one with data is read from them
  pub record IsPlain (r : Rule) : Type 0 where
    pub bare : data' r ≡ no_trees
    pub found : words.plain (word r) ≡ Some r

  pub record IsGiven (r : Rule) : Type 0 where
    pub part : Tree
    pub given : Given Rule
    pub text : data' r ≡ more part no_trees
    pub no_plain : words.plain (word r) ≡ None
    pub found : words.given (word r) ≡ Some given
    pub arity : given.arity ≡ words.arity r
    pub reads : IsReadAs given.read part r

  -- what is read by a word has this word and these data
  pub record IsOf (w : Name) (ts : Trees) (r : Rule) : Type 0 where
    pub named : word r ≡ w
    pub text : data' r ≡ ts
    pub fine : has_text r ≡ true

  pub record AreWords : Type 0 where
    pub found : (r : Rule) → has_text r ≡ true → IsPlain r ⊎ IsGiven r
    pub plain : (w : Name) (r : Rule) → words.plain w ≡ Some r → IsOf w no_trees r
    pub given : (w : Name) (g : Given Rule) (at : ℕ) (t : Tree) (r : Rule) (n : ℕ) → words.given w ≡ Some g → g.read at t ≡ Ok (r, n) → IsOf w (more t no_trees) r × (words.arity r ≡ g.arity)

  counted : (ts : rules.Trees Rule) → count (rule_trees word data' ts) ≡ rules.count ts
  counted rules.no_trees = refl
  counted (rules.tree t ts) = ap suc (counted ts)

  both : (t : rules.Tree Rule) (ts : rules.Trees Rule) → IsReadAs (tree_at words) (rule_tree word data' t) t → AreReadAs (trees_at words) (rule_trees word data' ts) ts → AreReadAs (trees_at words) (rule_trees word data' (rules.tree t ts)) (rules.tree t ts)
  both t ts first others = λ at.
      ap (λ q. q >>= λ x. trees_at words x.1 (rule_trees word data' ts) >>= λ y. Ok (rules.tree x.0 y.0, y.1)) (first at)
      ∙ ap (λ q. q >>= λ y. Ok (rules.tree t y.0, y.1)) (others (behind at (rule_tree word data' t)))

  leaf_reads : (r : Rule) → words.plain (word r) ≡ Some r → fits (words.arity r) 0 ≡ true → IsReadAs (tree_at words) (Atom (word r)) (rules.node r rules.no_trees)
  leaf_reads r found fit = λ at. ap (leaf_at words at) found ∙ cond-true (fits (words.arity r) 0) (Ok (rules.node r rules.no_trees, next at)) (Err at) fit

  list_reads : (r : Rule) (t : Tree) (ts : Trees) (u : rules.Tree Rule) (us : rules.Trees Rule) → words.plain (word r) ≡ Some r → fits (words.arity r) (suc (count ts)) ≡ true → IsReadAs (tree_at words) t u → AreReadAs (trees_at words) ts us →
      IsReadAs (tree_at words) (Node (more (Atom (word r)) (more t ts))) (rules.node r (rules.tree u us))
  list_reads r t ts u us found fit first others = λ at.
      let inner = next (next at) in
      ap (λ o. list_at words at inner o (words.given (word r)) (more t ts)) found
      ∙ cond-true (fits (words.arity r) (suc (count ts))) (tree_at words inner t >>= λ x. trees_at words x.1 ts >>= λ y. Ok (rules.node r (rules.tree x.0 y.0), y.1)) (Err at) fit
      ∙ ap (λ q. q >>= λ x. trees_at words x.1 ts >>= λ y. Ok (rules.node r (rules.tree x.0 y.0), y.1)) (first inner)
      ∙ ap (λ q. q >>= λ y. Ok (rules.node r (rules.tree u y.0), y.1)) (others (behind inner t))

  given_reads : (r : Rule) (g : Given Rule) (t : Tree) (ts : Trees) (us : rules.Trees Rule) → words.plain (word r) ≡ None → words.given (word r) ≡ Some g → fits g.arity (count ts) ≡ true → IsReadAs g.read t r → AreReadAs (trees_at words) ts us →
      IsReadAs (tree_at words) (Node (more (Atom (word r)) (more t ts))) (rules.node r us)
  given_reads r g t ts us none found fit first others = λ at.
      let inner = next (next at) in
      ap₂ (λ o p. list_at words at inner o p (more t ts)) none found
      ∙ cond-true (fits g.arity (count ts)) (g.read inner t >>= λ x. trees_at words x.1 ts >>= λ y. Ok (rules.node x.0 y.0, y.1)) (Err at) fit
      ∙ ap (λ q. q >>= λ x. trees_at words x.1 ts >>= λ y. Ok (rules.node x.0 y.0, y.1)) (first inner)
      ∙ ap (λ q. q >>= λ y. Ok (rules.node r y.0, y.1)) (others (behind inner t))

  module _ (are : AreWords) where
    with_data : (r : Rule) (ts : rules.Trees Rule) → IsGiven r → fits (words.arity r) (rules.count ts) ≡ true → AreReadAs (trees_at words) (rule_trees word data' ts) ts → IsReadAs (tree_at words) (rule_tree word data' (rules.node r ts)) (rules.node r ts)
    with_data r ts d fit others =
        subst (λ us. IsReadAs (tree_at words) (word_with (word r) (joined us (rule_trees word data' ts))) (rules.node r ts)) (sym d.text)
        (given_reads r d.given d.part (rule_trees word data' ts) ts d.no_plain d.found (ap₂ fits d.arity (counted ts) ∙ fit) d.reads others)

    mutual
      pub reads : (t : rules.Tree Rule) → is_tree words.arity has_text t ≡ true → IsReadAs (tree_at words) (rule_tree word data' t) t
      reads (rules.node r rules.no_trees) is =
          let p = and_parts (fits (words.arity r) 0 && has_text r) true is in
          let q = and_parts (fits (words.arity r) 0) (has_text r) p.0 in
          elim (are.found r q.1) [
            | inl d ↦ subst (λ us. IsReadAs (tree_at words) (word_with (word r) (joined us no_trees)) (rules.node r rules.no_trees)) (sym d.bare) (leaf_reads r d.found q.0)
            | inr d ↦ with_data r rules.no_trees d q.0 (λ at. refl)
          ]
      reads (rules.node r (rules.tree t ts)) is =
          let p = and_parts (fits (words.arity r) (suc (rules.count ts)) && has_text r) (is_tree words.arity has_text t && are_trees words.arity has_text ts) is in
          let q = and_parts (fits (words.arity r) (suc (rules.count ts))) (has_text r) p.0 in
          let s = and_parts (is_tree words.arity has_text t) (are_trees words.arity has_text ts) p.1 in
          let first = reads t s.0 in
          let others = all_read ts s.1 in
          elim (are.found r q.1) [
            | inl d ↦
                subst (λ us. IsReadAs (tree_at words) (word_with (word r) (joined us (rule_trees word data' (rules.tree t ts)))) (rules.node r (rules.tree t ts))) (sym d.bare)
                (list_reads r (rule_tree word data' t) (rule_trees word data' ts) t ts d.found (ap (λ n. fits (words.arity r) (suc n)) (counted ts) ∙ q.0) first others)
            | inr d ↦ with_data r (rules.tree t ts) d q.0 (λ at. both t ts first others at)
          ]

      pub all_read : (ts : rules.Trees Rule) → are_trees words.arity has_text ts ≡ true → AreReadAs (trees_at words) (rule_trees word data' ts) ts
      all_read rules.no_trees is = λ at. refl
      all_read (rules.tree t ts) is =
          let p = and_parts (is_tree words.arity has_text t) (are_trees words.arity has_text ts) is in
          both t ts (reads t p.0) (all_read ts p.1)

    -- the other way round
    abbrev pub IsText : Tree → rules.Tree Rule → Type 0
    IsText t x = (t ≡ rule_tree word data' x) × (is_tree words.arity has_text x ≡ true)

    abbrev pub AreTexts : Trees → rules.Trees Rule → Type 0
    AreTexts ts xs = (ts ≡ rule_trees word data' xs) × (are_trees words.arity has_text xs ≡ true)

    kept : {A : Type 0} (b : Bool) (r : Read A) (at : ℕ) (x : A) (n : ℕ) → cond {A = Read A} b r (Err at) ≡ Ok (x, n) → (b ≡ true) × (r ≡ Ok (x, n))
    kept true r at x n e = (refl, e)
    kept false r at x n e = absurd cc

    moved : (t : Tree) (x y : rules.Tree Rule) → x ≡ y → IsText t x → IsText t y
    moved t x y same is = (is.0 ∙ ap (rule_tree word data') same, ap (is_tree words.arity has_text) (sym same) ∙ is.1)

    counts : (ts : Trees) (xs : rules.Trees Rule) → ts ≡ rule_trees word data' xs → count ts ≡ rules.count xs
    counts ts xs e = ap count e ∙ counted xs

    fits_counted : (a : Arity) (ts : Trees) (xs : rules.Trees Rule) → ts ≡ rule_trees word data' xs → fits a (suc (count ts)) ≡ true → fits a (suc (rules.count xs)) ≡ true
    fits_counted a ts xs e fit = ap (λ m. fits a (suc m)) (sym (counts ts xs e)) ∙ fit

    paired : (t : Tree) (ts : Trees) (x : rules.Tree Rule) (xs : rules.Trees Rule) → IsText t x → AreTexts ts xs → AreTexts (more t ts) (rules.tree x xs)
    paired t ts x xs u us = (ap₂ more u.0 us.0, and_from (is_tree words.arity has_text x) (are_trees words.arity has_text xs) u.1 us.1)

    -- of a rule with its word, its data and its parts
    spelled : (w : Name) (ds : Trees) (r : Rule) (ts : Trees) (xs : rules.Trees Rule) → IsOf w ds r → fits (words.arity r) (rules.count xs) ≡ true → AreTexts ts xs → IsText (word_with w (joined ds ts)) (rules.node r xs)
    spelled w ds r ts xs d fit is = (
      ap₂ word_with (sym d.named) (ap₂ joined (sym d.text) is.0),
      and_from (fits (words.arity r) (rules.count xs) && has_text r) (are_trees words.arity has_text xs) (and_from (fits (words.arity r) (rules.count xs)) (has_text r) fit d.fine) is.1,
    )

    leaf_spells : (w : Name) (at : ℕ) (x : rules.Tree Rule) (n : ℕ) (o : Option Rule) → words.plain w ≡ o → leaf_at words at o ≡ Ok (x, n) → IsText (Atom w) x
    leaf_spells w at x n None e read = absurd cc
    leaf_spells w at x n (Some r) e read =
        let h = kept_ok (fits (words.arity r) 0) (rules.node r rules.no_trees) (next at) at x n read in
        moved (Atom w) (rules.node r rules.no_trees) x h.1 (spelled w no_trees r no_trees rules.no_trees (are.plain w r e) h.0 (refl, refl))

    list_none : (at inner : ℕ) (o : Option Rule) (p : Option (Given Rule)) → list_at words at inner o p no_trees ≡ Err at
    list_none at inner None None = refl
    list_none _ _ _ _ = refl

    list_spells : (w : Name) (t : Tree) (ts : Trees) (at inner : ℕ) (x : rules.Tree Rule) (n : ℕ) (o : Option Rule) (p : Option (Given Rule)) → words.plain w ≡ o → words.given w ≡ p →
        ((at : ℕ) (y : rules.Tree Rule) (n : ℕ) → tree_at words at t ≡ Ok (y, n) → IsText t y) → ((at : ℕ) (ys : rules.Trees Rule) (n : ℕ) → trees_at words at ts ≡ Ok (ys, n) → AreTexts ts ys) →
        list_at words at inner o p (more t ts) ≡ Ok (x, n) → IsText (Node (more (Atom w) (more t ts))) x
    list_spells w t ts at inner x n None None e f first others read = absurd cc
    list_spells w t ts at inner x n None (Some g) e f first others read =
        let (fit, whole) = kept (fits g.arity (count ts)) (g.read inner t >>= λ y. trees_at words y.1 ts >>= λ z. Ok (rules.node y.0 z.0, z.1)) at x n read in
        let (y, h, behind) = bind_ok (g.read inner t) (λ y. trees_at words y.1 ts >>= λ z. Ok (rules.node y.0 z.0, z.1)) (x, n) whole in
        let (z, k, last) = bind_ok (trees_at words y.1 ts) (λ z. Ok (rules.node y.0 z.0, z.1)) (x, n) behind in
        let d = are.given w g inner t y.0 y.1 f h in
        let us = others y.1 z.0 z.1 k in
        moved (Node (more (Atom w) (more t ts))) (rules.node y.0 z.0) x (value_ok (rules.node y.0 z.0) z.1 x n last)
        (spelled w (more t no_trees) y.0 ts z.0 d.0 (ap₂ fits d.1 (sym (counts ts z.0 us.0)) ∙ fit) us)
    list_spells w t ts at inner x n (Some r) p e f first others read =
        let (fit, whole) = kept (fits (words.arity r) (suc (count ts))) (tree_at words inner t >>= λ y. trees_at words y.1 ts >>= λ z. Ok (rules.node r (rules.tree y.0 z.0), z.1)) at x n read in
        let (y, h, behind) = bind_ok (tree_at words inner t) (λ y. trees_at words y.1 ts >>= λ z. Ok (rules.node r (rules.tree y.0 z.0), z.1)) (x, n) whole in
        let (z, k, last) = bind_ok (trees_at words y.1 ts) (λ z. Ok (rules.node r (rules.tree y.0 z.0), z.1)) (x, n) behind in
        let u = first inner y.0 y.1 h in
        let us = others y.1 z.0 z.1 k in
        moved (Node (more (Atom w) (more t ts))) (rules.node r (rules.tree y.0 z.0)) x (value_ok (rules.node r (rules.tree y.0 z.0)) z.1 x n last)
        (spelled w no_trees r (more t ts) (rules.tree y.0 z.0) (are.plain w r e) (fits_counted (words.arity r) ts z.0 us.0 fit) (paired t ts y.0 z.0 u us))

    mutual
      pub spells : (t : Tree) (at : ℕ) (x : rules.Tree Rule) (n : ℕ) → tree_at words at t ≡ Ok (x, n) → IsText t x
      spells (Atom w) at x n e = leaf_spells w at x n (words.plain w) refl e
      spells (Node (more (Atom w) no_trees)) at x n e = absurd (let h = sym (list_none at (next (next at)) (words.plain w) (words.given w)) ∙ e in cc)
      spells (Node (more (Atom w) (more t ts))) at x n e =
          list_spells w t ts at (next (next at)) x n (words.plain w) (words.given w) refl refl (λ k y m f. spells t k y m f) (λ k ys m f. all_spell ts k ys m f) e
      spells _ at x n e = absurd cc

      pub all_spell : (ts : Trees) (at : ℕ) (xs : rules.Trees Rule) (n : ℕ) → trees_at words at ts ≡ Ok (xs, n) → AreTexts ts xs
      all_spell no_trees at xs n e = subst (λ ys. AreTexts no_trees ys) (value_ok rules.no_trees at xs n e) (refl, refl)
      all_spell (more t ts) at xs n e =
          let (y, h, behind) = bind_ok (tree_at words at t) (λ y. trees_at words y.1 ts >>= λ z. Ok (rules.tree y.0 z.0, z.1)) (xs, n) e in
          let (z, k, last) = bind_ok (trees_at words y.1 ts) (λ z. Ok (rules.tree y.0 z.0, z.1)) (xs, n) behind in
          let u = spells t at y.0 y.1 h in
          let us = all_spell ts y.1 z.0 z.1 k in
          subst (λ ys. AreTexts (more t ts) ys) (value_ok (rules.tree y.0 z.0) z.1 xs n last) (paired t ts y.0 z.0 u us)
