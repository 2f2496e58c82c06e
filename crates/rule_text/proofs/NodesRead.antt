-- What the code reads of a node is what reading gives.
use Rattle.std.proofs.Common.{◌≡◌, ℕ, suc, Bool, true, false, cond, List, [], ◌∷◌, ◌++◌, length, Option, Some, None, Ok, Err, refl, ap, ap₂, sym, subst, ◌∙◌}
use Rattle.std.specs.Prelude.{IfSome, option_map}
use Rattle.std.proofs.lemmas.Bool.{cond-true, cond-false}
use Rattle.ac_sx.specs.declared.sx.Sx as S
use Rattle.ac_sx.specs.Tree.{Tree, Trees, Atom, Node, no_trees, more}
use Rattle.ac_sx.specs.CodeSx.{trees_in, word_in, headed_in, first_of}
use Rattle.c_values.specs.Name.{Name}
use Rattle.expression_text.specs.declared.fault.TextFault.{TextFault}
use Rattle.expression_text.specs.declared.fault.TextFault.TheVariants as F
use Rattle.expression_text.specs.CodeFault.{Fails}
use Rattle.expression_text.specs.Reading.{Read, next, ◌>>=◌, made}
use Rattle.rule_trees.specs.RuleTree as rules
use Rattle.rule_trees.specs.declared.tree.Tree as T
use Rattle.rule_trees.specs.declared.tree.Tree.{roll-Tree, Tree-F}
use Rattle.rule_trees.specs.CodeTree as code
use Rattle.rule_trees.proofs.Parts as parts
use Rattle.rule_text.specs.declared.arity.Arity.{Arity}
use Rattle.rule_text.specs.Arities.{fits}
use Rattle.rule_text.specs.RuleReading.{Given, Words, count, leaf_at, tree_at, list_at, trees_at}
use Rattle.rule_text.specs.CodeReading.{with_trees, front_by, front_at, with_parts, tree_by}

pub counted : (xs : List S.Sx) → count (trees_in xs) ≡ length xs
counted [] = refl
counted (x ∷ xs) = ap suc (counted xs)

pub first_is : (ts us : Trees) (t : Tree) → Some (t, us) ≡ first_of ts → ts ≡ more t us
first_is no_trees us t e = absurd cc
first_is (more u ts) us t e = let h : ◌≡◌ {A = Tree × Trees} (t, us) (u, ts) = cc in ap₂ more (ap (λ (p : Tree × Trees). p.0) (sym h)) (ap (λ (p : Tree × Trees). p.1) (sym h))

pub first_none : (ts : Trees) → None ≡ first_of ts → ts ≡ no_trees
first_none no_trees e = refl
first_none (more u ts) e = absurd cc

module _ {Rule : Type 0} (words : Words Rule) where
  plain_front : (at inner : ℕ) (o : Option Rule) (g : Option (Given Rule)) (r : Rule) (t : Tree) (us : Trees) (b : Bool) → inner ≡ next (next at) → Some r ≡ o → fits (words.arity r) (count (more t us)) ≡ b →
      front_by words at o g (more t us) ≡ cond {A = Read (Rule × Trees)} b (Ok ((r, more t us), inner)) (Err at)
  plain_front at inner o g r t us b e is fit =
      ap (λ (p : Option Rule). front_by words at p g (more t us)) (sym is)
      ∙ ap (λ c. cond {A = Read (Rule × Trees)} c (Ok ((r, more t us), next (next at))) (Err at)) fit
      ∙ ap (λ n. cond {A = Read (Rule × Trees)} b (Ok ((r, more t us), n)) (Err at)) (sym e)

  pub plain_fits : (at inner : ℕ) (word : Name) (xs : List S.Sx) (r : Rule) (t : Tree) (us : Trees) (b : Bool) → Some (t, us) ≡ first_of (trees_in xs) → inner ≡ next (next at) → Some r ≡ words.plain word → b ≡ fits (words.arity r) (length xs) → b ≡ true →
      front_at words at word (trees_in xs) ≡ Ok ((r, trees_in xs), inner)
  plain_fits at inner word xs r t us b e f is fit holds =
      let whole = first_is (trees_in xs) us t e in
      ap (front_at words at word) whole
      ∙ plain_front at inner (words.plain word) (words.given word) r t us true f is (ap (λ n. fits (words.arity r) n) (ap count (sym whole) ∙ counted xs) ∙ sym fit ∙ holds)
      ∙ ap (λ ts. Ok ((r, ts), inner)) (sym whole)

  pub plain_misfits : (at : ℕ) (word : Name) (xs : List S.Sx) (r : Rule) (t : Tree) (us : Trees) (b : Bool) → Some (t, us) ≡ first_of (trees_in xs) → Some r ≡ words.plain word → b ≡ fits (words.arity r) (length xs) → b ≡ false →
      front_at words at word (trees_in xs) ≡ Err at
  plain_misfits at word xs r t us b e is fit fails =
      let whole = first_is (trees_in xs) us t e in
      ap (front_at words at word) whole
      ∙ plain_front at (next (next at)) (words.plain word) (words.given word) r t us false refl is (ap (λ n. fits (words.arity r) n) (ap count (sym whole) ∙ counted xs) ∙ sym fit ∙ fails)

  pub no_word : (at : ℕ) (word : Name) (ts : Trees) → None ≡ words.plain word → None ≡ option_map (λ (g : Given Rule). g.arity) (words.given word) → front_at words at word ts ≡ Err at
  no_word at word ts e f = none (words.plain word) (words.given word) ts e f
    where
      none : (o : Option Rule) (g : Option (Given Rule)) (ts : Trees) → None ≡ o → None ≡ option_map (λ (g : Given Rule). g.arity) g → front_by words at o g ts ≡ Err at
      none None None ts e f = refl
      none _ _ ts e f = absurd cc

  -- data that don't fit, or that are read
  pub given_misfits : (at : ℕ) (word : Name) (ts : Trees) (a : Arity) (t : Tree) (xs : List S.Sx) (b : Bool) → Some (t, trees_in xs) ≡ first_of ts → None ≡ words.plain word → Some a ≡ option_map (λ (g : Given Rule). g.arity) (words.given word) →
      b ≡ fits a (length xs) → b ≡ false → front_at words at word ts ≡ Err at
  given_misfits at word ts a t xs b e f is fit fails = ap (front_at words at word) (first_is ts (trees_in xs) t e) ∙ by (words.plain word) (words.given word) f is
    where
      by : (o : Option Rule) (g : Option (Given Rule)) → None ≡ o → Some a ≡ option_map (λ (g : Given Rule). g.arity) g → front_by words at o g (more t (trees_in xs)) ≡ Err at
      by None (Some g) f is =
          let same : a ≡ g.arity = cc in
          cond-false (fits g.arity (count (trees_in xs))) (g.read (next (next at)) t >>= λ x. Ok ((x.0, trees_in xs), x.1)) (Err at) (ap₂ fits (sym same) (counted xs) ∙ sym fit ∙ fails)
      by _ _ f is = absurd cc

  abbrev of_data : ℕ → Tree → Trees → Given Rule → Read (Rule × Trees)
  of_data at t us g = g.read (next (next at)) t >>= λ x. Ok ((x.0, us), x.1)

  given_fits : (at : ℕ) (o : Option Rule) (g : Given Rule) (a : Arity) (t : Tree) (xs : List S.Sx) (b : Bool) → None ≡ o → ◌≡◌ {A = Option Arity} (Some a) (Some g.arity) → b ≡ fits a (length xs) → b ≡ true →
      front_by words at o (Some g) (more t (trees_in xs)) ≡ of_data at t (trees_in xs) g
  given_fits at (Some r) g a t xs b f is fit holds = absurd cc
  given_fits at None g a t xs b f is fit holds =
      let same : a ≡ g.arity = cc in
      cond-true (fits g.arity (count (trees_in xs))) (of_data at t (trees_in xs) g) (Err at) (ap₂ fits (sym same) (counted xs) ∙ sym fit ∙ holds)

  pub given_reads : (at inner : ℕ) (word : Name) (ts : Trees) (a : Arity) (t : Tree) (xs : List S.Sx) (b : Bool) (r : Rule) (n : ℕ) → Some (t, trees_in xs) ≡ first_of ts → inner ≡ next (next at) → None ≡ words.plain word →
      Some a ≡ option_map (λ (g : Given Rule). g.arity) (words.given word) → b ≡ fits a (length xs) → b ≡ true → IfSome (words.given word) (λ g. g.read inner t ≡ Ok (r, n)) → front_at words at word ts ≡ Ok ((r, trees_in xs), n)
  given_reads at inner word ts a t xs b r n e d f is fit holds read = ap (front_at words at word) (first_is ts (trees_in xs) t e) ∙ by (words.given word) is read
    where
      by : (g : Option (Given Rule)) → Some a ≡ option_map (λ (g : Given Rule). g.arity) g → IfSome g (λ g. g.read inner t ≡ Ok (r, n)) → front_by words at (words.plain word) g (more t (trees_in xs)) ≡ Ok ((r, trees_in xs), n)
      by None is read = absurd cc
      by (Some g) is read =
          given_fits at (words.plain word) g a t xs b f is fit holds
          ∙ ap (λ r. r >>= λ x. Ok ((x.0, trees_in xs), x.1)) (ap (λ k. g.read k t) (sym d) ∙ read)

  pub given_fails : (fault : TextFault) (at inner : ℕ) (word : Name) (ts : Trees) (a : Arity) (t : Tree) (xs : List S.Sx) (b : Bool) → Some (t, trees_in xs) ≡ first_of ts → inner ≡ next (next at) → None ≡ words.plain word →
      Some a ≡ option_map (λ (g : Given Rule). g.arity) (words.given word) → b ≡ fits a (length xs) → b ≡ true → IfSome (words.given word) (λ g. Fails fault (g.read inner t)) → Fails fault (front_at words at word ts)
  given_fails fault at inner word ts a t xs b e d f is fit holds read =
      subst (λ us. Fails fault (front_at words at word us)) (sym (first_is ts (trees_in xs) t e)) (by (words.given word) is read)
    where
      failed : (g : Given Rule) (fault : TextFault) → Fails fault (g.read inner t) → Fails fault (of_data at t (trees_in xs) g)
      failed g (F.Shape n) h = ap (λ r. r >>= λ x. Ok ((x.0, trees_in xs), x.1)) (ap (λ k. g.read k t) (sym d) ∙ h)
      failed g F.Memory h = tt
      failed _ _ h = h

      by : (g : Option (Given Rule)) → Some a ≡ option_map (λ (g : Given Rule). g.arity) g → IfSome g (λ g. Fails fault (g.read inner t)) → Fails fault (front_by words at (words.plain word) g (more t (trees_in xs)))
      by None is read = absurd cc
      by (Some g) is read = subst (λ r. Fails fault r) (sym (given_fits at (words.plain word) g a t xs b f is fit holds)) (failed g fault read)

  -- a node by its word, and by its list
  seq : {A B C : Type 0} (r : Read A) (f : A × ℕ → Read B) (g : B × ℕ → Read C) → ((r >>= f) >>= g) ≡ (r >>= λ x. f x >>= g)
  seq (Ok x) f g = refl
  seq (Err n) f g = refl

  abbrev with_rule : Rule → Read (rules.Trees Rule) → Read (rules.Tree Rule)
  with_rule r q = q >>= λ y. Ok (rules.node r y.0, y.1)

  abbrev with_first : rules.Tree Rule → Read (rules.Trees Rule) → Read (rules.Trees Rule)
  with_first t q = q >>= λ y. Ok (rules.tree t y.0, y.1)

  others_then : (r : Rule) (t : rules.Tree Rule) (q : Read (rules.Trees Rule)) → with_rule r (with_first t q) ≡ (q >>= λ y. Ok (rules.node r (rules.tree t y.0), y.1))
  others_then r t (Ok y) = refl
  others_then r t (Err n) = refl

  first_then : (r : Rule) (ts : Trees) (q : Read (rules.Tree Rule)) → with_rule r (q >>= λ x. with_first x.0 (trees_at words x.1 ts)) ≡ (q >>= λ x. trees_at words x.1 ts >>= λ y. Ok (rules.node r (rules.tree x.0 y.0), y.1))
  first_then r ts (Ok x) = others_then r x.0 (trees_at words x.1 ts)
  first_then r ts (Err n) = refl

  list_is : (at : ℕ) (o : Option Rule) (g : Option (Given Rule)) (ts : Trees) → list_at words at (next (next at)) o g ts ≡ with_parts words (front_by words at o g ts)
  list_is at None None no_trees = refl
  list_is at (Some r) g (more t ts) = by (fits (words.arity r) (suc (count ts)))
    where
      by : (b : Bool) → cond {A = Read (rules.Tree Rule)} b (tree_at words (next (next at)) t >>= λ x. trees_at words x.1 ts >>= λ y. Ok (rules.node r (rules.tree x.0 y.0), y.1)) (Err at)
          ≡ with_parts words (cond {A = Read (Rule × Trees)} b (Ok ((r, more t ts), next (next at))) (Err at))
      by false = refl
      by true = sym (first_then r ts (tree_at words (next (next at)) t))
  list_is at None (Some g) (more t ts) = by (fits g.arity (count ts))
    where
      by : (b : Bool) → cond {A = Read (rules.Tree Rule)} b (g.read (next (next at)) t >>= λ x. trees_at words x.1 ts >>= λ y. Ok (rules.node x.0 y.0, y.1)) (Err at)
          ≡ with_parts words (cond {A = Read (Rule × Trees)} b (of_data at t ts g) (Err at))
      by false = refl
      by true = sym (seq {A = Rule} {B = Rule × Trees} {C = rules.Tree Rule} (g.read (next (next at)) t) (λ x. Ok ((x.0, ts), x.1)) (λ x. trees_at words x.1 x.0.1 >>= λ y. Ok (rules.node x.0.0 y.0, y.1)))
  list_is _ _ _ _ = refl

  pub tree_is : (at : ℕ) (t : Tree) → tree_at words at t ≡ tree_by words at (word_in t) (headed_in t)
  tree_is at (Node (more (Atom word) ts)) = list_is at (words.plain word) (words.given word) ts
  tree_is _ _ = refl

  pub word_reads : (at : ℕ) (word : Name) (t : Tree) → Some word ≡ word_in t → tree_at words at t ≡ leaf_at words at (words.plain word)
  word_reads at word (Atom w) e = let h : word ≡ w = cc in ap (λ x. leaf_at words at (words.plain x)) (sym h)
  word_reads at word (Node ts) e = absurd cc

  pub node_is : (at : ℕ) (word : Name) (ts : Trees) (t : Tree) → None ≡ word_in t → Some (word, ts) ≡ headed_in t → tree_at words at t ≡ with_parts words (front_at words at word ts)
  node_is at word ts t e f = tree_is at t ∙ ap₂ (tree_by words at) (sym e) (sym f)

  -- a node fails where its front does
  pub front_refused : (fault : TextFault) (at : ℕ) (word : Name) (ts : Trees) (t : Tree) → None ≡ word_in t → Some (word, ts) ≡ headed_in t → Fails fault (front_at words at word ts) → Fails fault (tree_at words at t)
  front_refused (F.Shape n) at word ts t e f bad = node_is at word ts t e f ∙ ap (with_parts words) bad
  front_refused F.Memory at word ts t e f bad = tt
  front_refused F.NotText at word ts t e f bad = bad
  front_refused F.Deep at word ts t e f bad = bad

  then_more : (ts : rules.Trees Rule) (t : rules.Tree Rule) (r : Read (rules.Trees Rule)) → made (with_trees (with_trees ts (rules.tree t rules.no_trees))) r ≡ made (with_trees ts) (with_first t r)
  then_more ts t (Ok (us, n)) = ap (λ vs. Ok (vs, n)) (again ts)
    where
      again : (ts : rules.Trees Rule) → with_trees (with_trees ts (rules.tree t rules.no_trees)) us ≡ with_trees ts (rules.tree t us)
      again rules.no_trees = refl
      again (rules.tree v vs) = ap (λ ws. rules.tree v ws) (again vs)
  then_more ts t (Err n) = refl

  with_nothing : (ts : rules.Trees Rule) → with_trees ts rules.no_trees ≡ ts
  with_nothing rules.no_trees = refl
  with_nothing (rules.tree t ts) = ap (λ us. rules.tree t us) (with_nothing ts)

  -- a part is refused, and with it the node
  pub part_refused : (fault : TextFault) (at here inner : ℕ) (word : Name) (ts us rest others : Trees) (t part : Tree) (r : Rule) (before : rules.Trees Rule) → None ≡ word_in t → Some (word, ts) ≡ headed_in t → front_at words at word ts ≡ Ok ((r, us), inner) →
      Some (part, others) ≡ first_of rest → Fails fault (tree_at words here part) → made (with_trees before) (trees_at words here rest) ≡ trees_at words inner us → Fails fault (tree_at words at t)
  part_refused (F.Shape n) at here inner word ts us rest others t part r before e f front split bad so_far =
      node_is at word ts t e f
      ∙ ap (with_parts words) front
      ∙ ap (with_rule r) (sym so_far ∙ ap (λ vs. made (with_trees before) (trees_at words here vs)) (first_is rest others part split) ∙ ap (λ q. made (with_trees before) (q >>= λ x. with_first x.0 (trees_at words x.1 others))) bad)
  part_refused F.Memory at here inner word ts us rest others t part r before e f front split bad so_far = tt
  part_refused F.NotText at here inner word ts us rest others t part r before e f front split bad so_far = bad
  part_refused F.Deep at here inner word ts us rest others t part r before e f front split bad so_far = bad

  module _ {R : Type 0} (view : R → Rule) where
    pub leaf_reads : (at n : ℕ) (o : Option Rule) (w : Tree-F R (T.Tree R)) (b : Bool) → Some (view w.rule) ≡ o → b ≡ fits (words.arity (view w.rule)) 0 → b ≡ true → n ≡ next at → w.parts.items ≡ [] →
        leaf_at words at o ≡ Ok (code.tree_of view (roll-Tree R w), n)
    leaf_reads at n o w b e fit holds f none =
        ap (leaf_at words at) (sym e)
        ∙ cond-true (fits (words.arity (view w.rule)) 0) (Ok (rules.node (view w.rule) rules.no_trees, next at)) (Err at) (sym fit ∙ holds)
        ∙ ap₂ (λ t k. Ok (t, k)) (sym (parts.made view w [] none)) (sym f)

    all_pushed : (ts : List (T.Tree R)) (t : T.Tree R) → code.trees_in view (ts ++ t ∷ []) ≡ with_trees (code.trees_in view ts) (rules.tree (code.tree_of view t) rules.no_trees)
    all_pushed [] t = refl
    all_pushed (u ∷ ts) t = ap (λ us. rules.tree (code.tree_of view u) us) (all_pushed ts t)

    -- one part more
    pub part_read : (before now : List (T.Tree R)) (t : T.Tree R) (here behind : ℕ) (rest others : Trees) (part : Tree) (whole : Read (rules.Trees Rule)) → Some (part, others) ≡ first_of rest → now ≡ before ++ t ∷ [] →
        tree_at words here part ≡ Ok (code.tree_of view t, behind) → made (with_trees (code.trees_in view before)) (trees_at words here rest) ≡ whole → made (with_trees (code.trees_in view now)) (trees_at words behind others) ≡ whole
    part_read before now t here behind rest others part whole split pushed read so_far =
        ap (λ ts. made (with_trees ts) (trees_at words behind others)) (ap (code.trees_in view) pushed ∙ all_pushed before t)
        ∙ then_more (code.trees_in view before) (code.tree_of view t) (trees_at words behind others)
        ∙ ap (λ q. made (with_trees (code.trees_in view before)) (q >>= λ x. with_first x.0 (trees_at words x.1 others))) (sym read)
        ∙ ap (λ ts. made (with_trees (code.trees_in view before)) (trees_at words here ts)) (sym (first_is rest others part split))
        ∙ so_far

    -- all parts are read
    pub node_read : (at here inner : ℕ) (word : Name) (ts us rest : Trees) (t : Tree) (w : Tree-F R (T.Tree R)) → None ≡ word_in t → Some (word, ts) ≡ headed_in t → front_at words at word ts ≡ Ok ((view w.rule, us), inner) → None ≡ first_of rest →
        made (with_trees (code.trees_in view w.parts.items)) (trees_at words here rest) ≡ trees_at words inner us → tree_at words at t ≡ Ok (code.tree_of view (roll-Tree R w), here)
    node_read at here inner word ts us rest t w e f front none so_far =
        let before = code.trees_in view w.parts.items in
        node_is at word ts t e f
        ∙ ap (with_parts words) front
        ∙ ap (with_rule (view w.rule)) (sym so_far ∙ ap (λ vs. made (with_trees before) (trees_at words here vs)) (first_none rest none) ∙ ap (λ vs. Ok (vs, here)) (with_nothing before))
        ∙ ap (λ u. Ok (u, here)) (sym (parts.made view w w.parts.items refl))
