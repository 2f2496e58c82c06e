-- The tree of a derivation of an assertion is read as the derivation, and what is read as a derivation is its tree.
use Rattle.std.proofs.Common.{◌≡◌, ℕ, true, ◌&&◌, List, Option, Some, None, Ok, Err, refl, ap, ap₂, sym, ◌∙◌}
use Rattle.std.specs.Prelude.{ℤ}
use Rattle.std.proofs.lemmas.Bool.{and_parts, and_from, false≢true}
use Rattle.c_values.specs.Name.{Name}
use Rattle.ac_sx.specs.Tree.{Tree, Trees, Atom, Node, no_trees, more}
use Rattle.ac_sx.specs.CodeSx.{two_of, first_of}
use Rattle.expression_lang.specs.Expression.{Exp}
use Rattle.expression_text.specs.Reading.{Read, next, ◌>>=◌, made}
use Rattle.expression_text.specs.Numbers.{number_text, is_number, number_at}
use Rattle.expression_text.specs.Words.{looked_up}
use Rattle.expression_text.specs.ExpText.{exp_tree, is_exp}
use Rattle.expression_text.specs.ExpReading.{exp_at}
use Rattle.expression_text.specs.Lists.{each, trees_for, list_at}
use Rattle.expression_text.proofs.LookedUp.{looked_up_is}
use Rattle.expression_text.proofs.Behind.{behind, IsReadAs, bind_ok, value_ok}
use Rattle.expression_text.proofs.LeavesText.{number_reads, number_spells}
use Rattle.expression_text.proofs.ExpsText.{exp_reads, exp_spells}
use Rattle.expression_text.proofs.ListLaws.{IsPart, list_reads, list_spells}
use Rattle.program_text.specs.MonText.{two, three}
use Rattle.program_text.proofs.PartLaws.{two_is, first_is, three_same}
use Rattle.rule_trees.specs.RuleTree as rules
use Rattle.triple_lang.specs.Entail as R
use Rattle.triple_lang.specs.CodeEntail.{leaf, over, over_both}
use Rattle.triple_text.specs.declared.entail_heads.EntailLeaf.{EntailLeaf}
use Rattle.triple_text.specs.declared.entail_heads.EntailLeaf.TheVariants as L
use Rattle.triple_text.specs.declared.entail_heads.EntailHead.{EntailHead}
use Rattle.triple_text.specs.declared.entail_heads.EntailHead.TheVariants as H
use Rattle.triple_text.specs.Words.{entail_leaf_word, entail_leaves, entail_head_word, entail_heads}
use Rattle.triple_text.specs.EntailText.{entail_tree, weighed_tree, is_weighed, is_entail, is_entail_node}
use Rattle.triple_text.specs.EntailReading.{weighed_row, weighed_at, linear_row, leaf_rule, leaf_at, entail_at, built_entail_at}
use Rattle.triple_text.specs.CodeEntailRows.{one_row, two_row, split_row, rewrite_row, step_row}
use Rattle.triple_text.specs.Answer.{IsEntailTree}
use Rattle.triple_text.proofs.Parted.{five, five_same}
use Rattle.triple_text.proofs.EntailRows.{heads_found}

-- what is made of what is read
pub made_ok : {A B : Type 0} (f : A → B) (q : Read A) (y : B) (n : ℕ) → made f q ≡ Ok (y, n) → (x : A) × (q ≡ Ok (x, n)) × (f x ≡ y)
made_ok {A} {B} f (Ok (x, m)) y n e =
    let h : ◌≡◌ {A = B × ℕ} (f x, m) (y, n) = cc in
    (x, ap (λ (p : B × ℕ). Ok (x, p.1)) h, ap (λ (p : B × ℕ). p.0) h)
made_ok f (Err m) y n e = absurd cc

abbrev pub one : Tree → Trees
one t = more t no_trees

-- a list that begins with a head
abbrev begins : EntailHead → Trees → Tree
begins h ts = Node (more (Atom (entail_head_word h)) ts)

row_reads : (h : EntailHead) (ts : Trees) (at : ℕ) → entail_at at (begins h ts) ≡ built_entail_at at (next (next at)) (Some h) ts
row_reads h ts at = ap (λ o. built_entail_at at (next (next at)) o ts) (heads_found h)

-- facts, each so often
abbrev weighed_with : ℤ → Exp → R.Weighed
weighed_with k e = record { weight = k; fact = e }

weighed_reads : (w : R.Weighed) → is_weighed w ≡ true → IsReadAs weighed_at (weighed_tree w) w
weighed_reads w is = λ at.
    let p = and_parts (is_number w.weight) (is_exp w.fact) is in
    ap (λ r. r >>= λ x. exp_at x.1 (exp_tree w.fact) >>= λ y. Ok (weighed_with x.0 y.0, y.1)) (number_reads w.weight p.0 (next at))
    ∙ ap (λ r. r >>= λ y. Ok (weighed_with w.weight y.0, y.1)) (exp_reads w.fact p.1 (behind (next at) (Atom (number_text w.weight))))

weighed_spells : (t : Tree) (at : ℕ) (x : R.Weighed) (n : ℕ) → weighed_at at t ≡ Ok (x, n) → IsPart weighed_tree is_weighed t x
weighed_spells (Atom word) at x n e = absurd cc
weighed_spells (Node ts) at x n e = row (two_of ts) refl e
  where
    row : (o : Option (Tree × Tree)) → two_of ts ≡ o → weighed_row at o ≡ Ok (x, n) → IsPart weighed_tree is_weighed (Node ts) x
    row None is read = absurd cc
    row (Some (t, u)) is read =
        let (y, read0, others0) = bind_ok (number_at (next at) t) (λ y. exp_at y.1 u >>= λ z. Ok (weighed_with y.0 z.0, z.1)) (x, n) read in
        let (z, read1, last) = bind_ok (exp_at y.1 u) (λ z. Ok (weighed_with y.0 z.0, z.1)) (x, n) others0 in
        let h0 = number_spells t (next at) y.0 y.1 read0 in
        let h1 = exp_spells u y.1 z.0 z.1 read1 in
        let same = value_ok (weighed_with y.0 z.0) z.1 x n last in (
          ap Node (two_is ts (t, u) is ∙ ap₂ two h0.0 h1.0) ∙ ap weighed_tree same,
          ap is_weighed (sym same) ∙ and_from (is_number y.0) (is_exp z.0) h0.1 h1.1,
        )

-- each row reads its tree
one_reads : (h : EntailHead) (rule : R.Rule) → ((at inner : ℕ) (t : Tree) → built_entail_at at inner (Some h) (one t) ≡ one_row at inner rule (Some t)) →
    (t : Tree) (a : rules.Tree R.Rule) → IsReadAs entail_at t a → IsReadAs entail_at (begins h (one t)) (over rule a)
one_reads h rule is t a k = λ at. row_reads h (one t) at ∙ is at (next (next at)) t ∙ ap (made (over rule)) (k (next (next at)))

two_reads : (h : EntailHead) (rule : R.Rule) → ((at inner : ℕ) (t u : Tree) → built_entail_at at inner (Some h) (two t u) ≡ two_row at inner rule (Some (t, u))) →
    (t u : Tree) (a b : rules.Tree R.Rule) → IsReadAs entail_at t a → IsReadAs entail_at u b → IsReadAs entail_at (begins h (two t u)) (over_both rule a b)
two_reads h rule is t u a b k l = λ at.
    row_reads h (two t u) at
    ∙ is at (next (next at)) t u
    ∙ ap (λ r. r >>= λ x. entail_at x.1 u >>= λ y. Ok (over_both rule x.0 y.0, y.1)) (k (next (next at)))
    ∙ ap (λ r. r >>= λ y. Ok (over_both rule a y.0, y.1)) (l (behind (next (next at)) t))

split_reads : (h : EntailHead) (rule : Exp → R.Rule) → ((at inner : ℕ) (s t u : Tree) → built_entail_at at inner (Some h) (three s t u) ≡ split_row at inner rule (Some (s, t, u))) →
    (c : Exp) (t u : Tree) (a b : rules.Tree R.Rule) → is_exp c ≡ true → IsReadAs entail_at t a → IsReadAs entail_at u b →
    IsReadAs entail_at (begins h (three (exp_tree c) t u)) (over_both (rule c) a b)
split_reads h rule is c t u a b fine k l = λ at.
    row_reads h (three (exp_tree c) t u) at
    ∙ is at (next (next at)) (exp_tree c) t u
    ∙ ap (λ r. r >>= λ e. entail_at e.1 t >>= λ x. entail_at x.1 u >>= λ y. Ok (over_both (rule e.0) x.0 y.0, y.1)) (exp_reads c fine (next (next at)))
    ∙ ap (λ r. r >>= λ x. entail_at x.1 u >>= λ y. Ok (over_both (rule c) x.0 y.0, y.1)) (k (behind (next (next at)) (exp_tree c)))
    ∙ ap (λ r. r >>= λ y. Ok (over_both (rule c) a y.0, y.1)) (l (behind (behind (next (next at)) (exp_tree c)) t))

rewrite_reads : (c d q : Exp) (t u : Tree) (a b : rules.Tree R.Rule) → is_exp c ≡ true → is_exp d ≡ true → is_exp q ≡ true → IsReadAs entail_at t a → IsReadAs entail_at u b →
    IsReadAs entail_at (begins H.Rewrite (five (exp_tree c) (exp_tree d) (exp_tree q) t u)) (over_both (R.Rewrite c d q) a b)
rewrite_reads c d q t u a b fine0 fine1 fine2 k l = λ at.
    row_reads H.Rewrite (five (exp_tree c) (exp_tree d) (exp_tree q) t u) at
    ∙ ap (λ r. r >>= λ e. exp_at e.1 (exp_tree d) >>= λ f. exp_at f.1 (exp_tree q) >>= λ g. entail_at g.1 t >>= λ x. entail_at x.1 u >>= λ y. Ok (over_both (R.Rewrite e.0 f.0 g.0) x.0 y.0, y.1)) (exp_reads c fine0 (next (next at)))
    ∙ ap (λ r. r >>= λ f. exp_at f.1 (exp_tree q) >>= λ g. entail_at g.1 t >>= λ x. entail_at x.1 u >>= λ y. Ok (over_both (R.Rewrite c f.0 g.0) x.0 y.0, y.1)) (exp_reads d fine1 (behind (next (next at)) (exp_tree c)))
    ∙ ap (λ r. r >>= λ g. entail_at g.1 t >>= λ x. entail_at x.1 u >>= λ y. Ok (over_both (R.Rewrite c d g.0) x.0 y.0, y.1)) (exp_reads q fine2 (behind (behind (next (next at)) (exp_tree c)) (exp_tree d)))
    ∙ ap (λ r. r >>= λ x. entail_at x.1 u >>= λ y. Ok (over_both (R.Rewrite c d q) x.0 y.0, y.1)) (k (behind (behind (behind (next (next at)) (exp_tree c)) (exp_tree d)) (exp_tree q)))
    ∙ ap (λ r. r >>= λ y. Ok (over_both (R.Rewrite c d q) a y.0, y.1)) (l (behind (behind (behind (behind (next (next at)) (exp_tree c)) (exp_tree d)) (exp_tree q)) t))

step_reads : (q : Exp) (t : Tree) (a : rules.Tree R.Rule) → is_exp q ≡ true → IsReadAs entail_at t a → IsReadAs entail_at (begins H.Step (two (exp_tree q) t)) (over (R.Step q) a)
step_reads q t a fine k = λ at.
    row_reads H.Step (two (exp_tree q) t) at
    ∙ ap (λ r. r >>= λ e. entail_at e.1 t >>= λ x. Ok (over (R.Step e.0) x.0, x.1)) (exp_reads q fine (next (next at)))
    ∙ ap (λ r. r >>= λ x. Ok (over (R.Step q) x.0, x.1)) (k (behind (next (next at)) (exp_tree q)))

linear_reads : (k : ℤ) (ws : List R.Weighed) → (is_number k && each is_weighed ws) ≡ true → IsReadAs entail_at (begins H.Linear (more (Atom (number_text k)) (trees_for weighed_tree ws))) (leaf (R.Linear k ws))
linear_reads k ws is = λ at.
    let p = and_parts (is_number k) (each is_weighed ws) is in
    row_reads H.Linear (more (Atom (number_text k)) (trees_for weighed_tree ws)) at
    ∙ ap (λ r. r >>= λ x. list_at weighed_at x.1 (trees_for weighed_tree ws) >>= λ y. Ok (leaf (R.Linear x.0 y.0), y.1)) (number_reads k p.0 (next (next at)))
    ∙ ap (λ r. r >>= λ y. Ok (leaf (R.Linear k y.0), y.1)) (list_reads weighed_at weighed_tree is_weighed weighed_reads ws p.1 (behind (next (next at)) (Atom (number_text k))))

mutual
  pub entail_reads : (x : rules.Tree R.Rule) → is_entail x ≡ true → IsReadAs entail_at (entail_tree x) x
  entail_reads (rules.node r ts) is = node_reads r ts is

  node_reads : (r : R.Rule) (ts : rules.Trees R.Rule) → is_entail_node r ts ≡ true → IsReadAs entail_at (entail_tree (rules.node r ts)) (rules.node r ts)
  node_reads R.Hyp rules.no_trees is = λ at. refl
  node_reads R.Same rules.no_trees is = λ at. refl
  node_reads R.Compute rules.no_trees is = λ at. refl
  node_reads R.And (rules.tree t (rules.tree u rules.no_trees)) is =
      let p = and_parts (is_entail t) (is_entail u) is in
      two_reads H.And R.And (λ at inner r s. refl) (entail_tree t) (entail_tree u) t u (entail_reads t p.0) (entail_reads u p.1)
  node_reads R.Imp (rules.tree t rules.no_trees) is = one_reads H.Imp R.Imp (λ at inner s. refl) (entail_tree t) t (entail_reads t is)
  node_reads R.Or (rules.tree t rules.no_trees) is = one_reads H.Or R.Or (λ at inner s. refl) (entail_tree t) t (entail_reads t is)
  node_reads R.Not (rules.tree t rules.no_trees) is = one_reads H.Not R.Not (λ at inner s. refl) (entail_tree t) t (entail_reads t is)
  node_reads R.Between (rules.tree t (rules.tree u rules.no_trees)) is =
      let p = and_parts (is_entail t) (is_entail u) is in
      two_reads H.Between R.Between (λ at inner r s. refl) (entail_tree t) (entail_tree u) t u (entail_reads t p.0) (entail_reads u p.1)
  node_reads (R.Case c) (rules.tree t (rules.tree u rules.no_trees)) is =
      let p = and_parts (is_exp c) (is_entail t && is_entail u) is in
      let q = and_parts (is_entail t) (is_entail u) p.1 in
      split_reads H.Case (λ e. R.Case e) (λ at inner r s v. refl) c (entail_tree t) (entail_tree u) t u p.0 (entail_reads t q.0) (entail_reads u q.1)
  node_reads (R.Cut c) (rules.tree t (rules.tree u rules.no_trees)) is =
      let p = and_parts (is_exp c) (is_entail t && is_entail u) is in
      let q = and_parts (is_entail t) (is_entail u) p.1 in
      split_reads H.Cut (λ e. R.Cut e) (λ at inner r s v. refl) c (entail_tree t) (entail_tree u) t u p.0 (entail_reads t q.0) (entail_reads u q.1)
  node_reads R.Absurd (rules.tree t rules.no_trees) is = one_reads H.Absurd R.Absurd (λ at inner s. refl) (entail_tree t) t (entail_reads t is)
  node_reads (R.Rewrite c d q) (rules.tree t (rules.tree u rules.no_trees)) is =
      let p = and_parts (is_exp c) (is_exp d && (is_exp q && (is_entail t && is_entail u))) is in
      let s = and_parts (is_exp d) (is_exp q && (is_entail t && is_entail u)) p.1 in
      let v = and_parts (is_exp q) (is_entail t && is_entail u) s.1 in
      let w = and_parts (is_entail t) (is_entail u) v.1 in
      rewrite_reads c d q (entail_tree t) (entail_tree u) t u p.0 s.0 v.0 (entail_reads t w.0) (entail_reads u w.1)
  node_reads (R.Step q) (rules.tree t rules.no_trees) is =
      let p = and_parts (is_exp q) (is_entail t) is in
      step_reads q (entail_tree t) t p.0 (entail_reads t p.1)
  node_reads R.Range rules.no_trees is = λ at. refl
  node_reads (R.Linear k ws) rules.no_trees is = linear_reads k ws is
  node_reads _ _ is = absurd (false≢true is)

-- the other way round
abbrev Spells : Tree → Type 0
Spells t = (at : ℕ) (x : rules.Tree R.Rule) (n : ℕ) → entail_at at t ≡ Ok (x, n) → IsEntailTree t x

moved : (t : Tree) (x y : rules.Tree R.Rule) → x ≡ y → t ≡ entail_tree x → is_entail x ≡ true → IsEntailTree t y
moved t x y same is fine = (is ∙ ap entail_tree same, ap is_entail (sym same) ∙ fine)

headed_as : (word : Name) (h : EntailHead) (ts : Trees) → entail_head_word h ≡ word → Node (more (Atom word) ts) ≡ begins h ts
headed_as word h ts e = ap (λ w. Node (more (Atom w) ts)) (sym e)

leaf_spells : (word : Name) (at : ℕ) (x : rules.Tree R.Rule) (n : ℕ) (o : Option EntailLeaf) → looked_up entail_leaf_word entail_leaves word ≡ o → leaf_at at o ≡ Ok (x, n) → IsEntailTree (Atom word) x
leaf_spells word at x n None found read = absurd cc
leaf_spells word at x n (Some l) found read =
    let p = leaf_text l in
    moved (Atom word) (leaf (leaf_rule l)) x (value_ok (leaf (leaf_rule l)) (next at) x n read) (ap Atom (sym (looked_up_is entail_leaf_word entail_leaves word l found)) ∙ p.0) p.1
  where
    leaf_text : (l : EntailLeaf) → IsEntailTree (Atom (entail_leaf_word l)) (leaf (leaf_rule l))
    leaf_text L.Hyp = (refl, refl)
    leaf_text _ = (refl, refl)

one_spells : (h : EntailHead) (rule : R.Rule) → ((a : rules.Tree R.Rule) → entail_tree (over rule a) ≡ begins h (one (entail_tree a))) → ((a : rules.Tree R.Rule) → is_entail (over rule a) ≡ is_entail a) →
    (word : Name) (t : Tree) (at inner : ℕ) (x : rules.Tree R.Rule) (n : ℕ) → entail_head_word h ≡ word → Spells t → one_row at inner rule (Some t) ≡ Ok (x, n) → IsEntailTree (Node (more (Atom word) (one t))) x
one_spells h rule text fine word t at inner x n found spells read =
    let (a, first, same) = made_ok (over rule) (entail_at inner t) x n read in
    let k = spells inner a n first in
    moved (Node (more (Atom word) (one t))) (over rule a) x same (headed_as word h (one t) found ∙ ap (λ u. begins h (one u)) k.0 ∙ sym (text a)) (fine a ∙ k.1)

two_spells : (h : EntailHead) (rule : R.Rule) → ((a b : rules.Tree R.Rule) → entail_tree (over_both rule a b) ≡ begins h (two (entail_tree a) (entail_tree b))) →
    ((a b : rules.Tree R.Rule) → is_entail (over_both rule a b) ≡ (is_entail a && is_entail b)) →
    (word : Name) (t u : Tree) (at inner : ℕ) (x : rules.Tree R.Rule) (n : ℕ) → entail_head_word h ≡ word → Spells t → Spells u → two_row at inner rule (Some (t, u)) ≡ Ok (x, n) →
    IsEntailTree (Node (more (Atom word) (two t u))) x
two_spells h rule text fine word t u at inner x n found spells_t spells_u read =
    let (a, read0, others0) = bind_ok (entail_at inner t) (λ a. entail_at a.1 u >>= λ b. Ok (over_both rule a.0 b.0, b.1)) (x, n) read in
    let (b, read1, last) = bind_ok (entail_at a.1 u) (λ b. Ok (over_both rule a.0 b.0, b.1)) (x, n) others0 in
    let h0 = spells_t inner a.0 a.1 read0 in
    let h1 = spells_u a.1 b.0 b.1 read1 in
    moved (Node (more (Atom word) (two t u))) (over_both rule a.0 b.0) x (value_ok (over_both rule a.0 b.0) b.1 x n last)
    (headed_as word h (two t u) found ∙ ap (begins h) (ap₂ two h0.0 h1.0) ∙ sym (text a.0 b.0)) (fine a.0 b.0 ∙ and_from (is_entail a.0) (is_entail b.0) h0.1 h1.1)

split_spells : (h : EntailHead) (rule : Exp → R.Rule) → ((e : Exp) (a b : rules.Tree R.Rule) → entail_tree (over_both (rule e) a b) ≡ begins h (three (exp_tree e) (entail_tree a) (entail_tree b))) →
    ((e : Exp) (a b : rules.Tree R.Rule) → is_entail (over_both (rule e) a b) ≡ (is_exp e && (is_entail a && is_entail b))) →
    (word : Name) (s t u : Tree) (at inner : ℕ) (x : rules.Tree R.Rule) (n : ℕ) → entail_head_word h ≡ word → Spells t → Spells u → split_row at inner rule (Some (s, t, u)) ≡ Ok (x, n) →
    IsEntailTree (Node (more (Atom word) (three s t u))) x
split_spells h rule text fine word s t u at inner x n found spells_t spells_u read =
    let (e, read0, others0) = bind_ok (exp_at inner s) (λ e. entail_at e.1 t >>= λ a. entail_at a.1 u >>= λ b. Ok (over_both (rule e.0) a.0 b.0, b.1)) (x, n) read in
    let (a, read1, others1) = bind_ok (entail_at e.1 t) (λ a. entail_at a.1 u >>= λ b. Ok (over_both (rule e.0) a.0 b.0, b.1)) (x, n) others0 in
    let (b, read2, last) = bind_ok (entail_at a.1 u) (λ b. Ok (over_both (rule e.0) a.0 b.0, b.1)) (x, n) others1 in
    let h0 = exp_spells s inner e.0 e.1 read0 in
    let h1 = spells_t e.1 a.0 a.1 read1 in
    let h2 = spells_u a.1 b.0 b.1 read2 in
    moved (Node (more (Atom word) (three s t u))) (over_both (rule e.0) a.0 b.0) x (value_ok (over_both (rule e.0) a.0 b.0) b.1 x n last)
    (headed_as word h (three s t u) found ∙ ap (begins h) (three_same h0.0 h1.0 h2.0) ∙ sym (text e.0 a.0 b.0))
    (fine e.0 a.0 b.0 ∙ and_from (is_exp e.0) (is_entail a.0 && is_entail b.0) h0.1 (and_from (is_entail a.0) (is_entail b.0) h1.1 h2.1))

rewrite_spells : (word : Name) (r s v t u : Tree) (at inner : ℕ) (x : rules.Tree R.Rule) (n : ℕ) → entail_head_word H.Rewrite ≡ word → Spells t → Spells u → rewrite_row at inner (Some (r, s, v, t, u)) ≡ Ok (x, n) →
    IsEntailTree (Node (more (Atom word) (five r s v t u))) x
rewrite_spells word r s v t u at inner x n found spells_t spells_u read =
    let (e, read0, others0) = bind_ok (exp_at inner r) (λ e. exp_at e.1 s >>= λ f. exp_at f.1 v >>= λ g. entail_at g.1 t >>= λ a. entail_at a.1 u >>= λ b. Ok (over_both (R.Rewrite e.0 f.0 g.0) a.0 b.0, b.1)) (x, n) read in
    let (f, read1, others1) = bind_ok (exp_at e.1 s) (λ f. exp_at f.1 v >>= λ g. entail_at g.1 t >>= λ a. entail_at a.1 u >>= λ b. Ok (over_both (R.Rewrite e.0 f.0 g.0) a.0 b.0, b.1)) (x, n) others0 in
    let (g, read2, others2) = bind_ok (exp_at f.1 v) (λ g. entail_at g.1 t >>= λ a. entail_at a.1 u >>= λ b. Ok (over_both (R.Rewrite e.0 f.0 g.0) a.0 b.0, b.1)) (x, n) others1 in
    let (a, read3, others3) = bind_ok (entail_at g.1 t) (λ a. entail_at a.1 u >>= λ b. Ok (over_both (R.Rewrite e.0 f.0 g.0) a.0 b.0, b.1)) (x, n) others2 in
    let (b, read4, last) = bind_ok (entail_at a.1 u) (λ b. Ok (over_both (R.Rewrite e.0 f.0 g.0) a.0 b.0, b.1)) (x, n) others3 in
    let h0 = exp_spells r inner e.0 e.1 read0 in
    let h1 = exp_spells s e.1 f.0 f.1 read1 in
    let h2 = exp_spells v f.1 g.0 g.1 read2 in
    let h3 = spells_t g.1 a.0 a.1 read3 in
    let h4 = spells_u a.1 b.0 b.1 read4 in
    moved (Node (more (Atom word) (five r s v t u))) (over_both (R.Rewrite e.0 f.0 g.0) a.0 b.0) x (value_ok (over_both (R.Rewrite e.0 f.0 g.0) a.0 b.0) b.1 x n last)
    (headed_as word H.Rewrite (five r s v t u) found ∙ ap (begins H.Rewrite) (five_same h0.0 h1.0 h2.0 h3.0 h4.0))
    (and_from (is_exp e.0) (is_exp f.0 && (is_exp g.0 && (is_entail a.0 && is_entail b.0))) h0.1
    (and_from (is_exp f.0) (is_exp g.0 && (is_entail a.0 && is_entail b.0)) h1.1
    (and_from (is_exp g.0) (is_entail a.0 && is_entail b.0) h2.1 (and_from (is_entail a.0) (is_entail b.0) h3.1 h4.1))))

step_spells : (word : Name) (s t : Tree) (at inner : ℕ) (x : rules.Tree R.Rule) (n : ℕ) → entail_head_word H.Step ≡ word → Spells t → step_row at inner (Some (s, t)) ≡ Ok (x, n) → IsEntailTree (Node (more (Atom word) (two s t))) x
step_spells word s t at inner x n found spells_t read =
    let (e, read0, others0) = bind_ok (exp_at inner s) (λ e. entail_at e.1 t >>= λ a. Ok (over (R.Step e.0) a.0, a.1)) (x, n) read in
    let (a, read1, last) = bind_ok (entail_at e.1 t) (λ a. Ok (over (R.Step e.0) a.0, a.1)) (x, n) others0 in
    let h0 = exp_spells s inner e.0 e.1 read0 in
    let h1 = spells_t e.1 a.0 a.1 read1 in
    moved (Node (more (Atom word) (two s t))) (over (R.Step e.0) a.0) x (value_ok (over (R.Step e.0) a.0) a.1 x n last)
    (headed_as word H.Step (two s t) found ∙ ap (begins H.Step) (ap₂ two h0.0 h1.0)) (and_from (is_exp e.0) (is_entail a.0) h0.1 h1.1)

linear_spells : (word : Name) (ts : Trees) (at inner : ℕ) (x : rules.Tree R.Rule) (n : ℕ) (o : Option (Tree × Trees)) → entail_head_word H.Linear ≡ word → first_of ts ≡ o → linear_row at inner o ≡ Ok (x, n) →
    IsEntailTree (Node (more (Atom word) ts)) x
linear_spells word ts at inner x n None found is read = absurd cc
linear_spells word ts at inner x n (Some (t, us)) found is read =
    let (k, read0, others0) = bind_ok (number_at inner t) (λ k. list_at weighed_at k.1 us >>= λ ws. Ok (leaf (R.Linear k.0 ws.0), ws.1)) (x, n) read in
    let (ws, read1, last) = bind_ok (list_at weighed_at k.1 us) (λ ws. Ok (leaf (R.Linear k.0 ws.0), ws.1)) (x, n) others0 in
    let h0 = number_spells t inner k.0 k.1 read0 in
    let h1 = list_spells weighed_at weighed_tree is_weighed weighed_spells us k.1 ws.0 ws.1 read1 in
    moved (Node (more (Atom word) ts)) (leaf (R.Linear k.0 ws.0)) x (value_ok (leaf (R.Linear k.0 ws.0)) ws.1 x n last)
    (headed_as word H.Linear ts found ∙ ap (begins H.Linear) (first_is ts (t, us) is ∙ ap₂ more h0.0 h1.0)) (and_from (is_number k.0) (each is_weighed ws.0) h0.1 h1.1)

mutual
  pub entail_spells : (t : Tree) (at : ℕ) (x : rules.Tree R.Rule) (n : ℕ) → entail_at at t ≡ Ok (x, n) → IsEntailTree t x
  entail_spells (Atom word) at x n read = leaf_spells word at x n (looked_up entail_leaf_word entail_leaves word) refl read
  entail_spells (Node (more (Atom word) ts)) at x n read =
      built_spells word (looked_up entail_head_word entail_heads word) ts at (next (next at)) x n (λ h found. looked_up_is entail_head_word entail_heads word h found) read
  entail_spells _ at x n read = absurd cc

  built_spells : (word : Name) (o : Option EntailHead) (ts : Trees) (at inner : ℕ) (x : rules.Tree R.Rule) (n : ℕ) → ((h : EntailHead) → o ≡ Some h → entail_head_word h ≡ word) → built_entail_at at inner o ts ≡ Ok (x, n) →
      IsEntailTree (Node (more (Atom word) ts)) x
  built_spells word (Some H.And) (more t (more u no_trees)) at inner x n found read =
      two_spells H.And R.And (λ a b. refl) (λ a b. refl) word t u at inner x n (found H.And refl) (λ k y m e. entail_spells t k y m e) (λ k y m e. entail_spells u k y m e) read
  built_spells word (Some H.Imp) (more t no_trees) at inner x n found read =
      one_spells H.Imp R.Imp (λ a. refl) (λ a. refl) word t at inner x n (found H.Imp refl) (λ k y m e. entail_spells t k y m e) read
  built_spells word (Some H.Or) (more t no_trees) at inner x n found read =
      one_spells H.Or R.Or (λ a. refl) (λ a. refl) word t at inner x n (found H.Or refl) (λ k y m e. entail_spells t k y m e) read
  built_spells word (Some H.Not) (more t no_trees) at inner x n found read =
      one_spells H.Not R.Not (λ a. refl) (λ a. refl) word t at inner x n (found H.Not refl) (λ k y m e. entail_spells t k y m e) read
  built_spells word (Some H.Between) (more t (more u no_trees)) at inner x n found read =
      two_spells H.Between R.Between (λ a b. refl) (λ a b. refl) word t u at inner x n (found H.Between refl) (λ k y m e. entail_spells t k y m e) (λ k y m e. entail_spells u k y m e) read
  built_spells word (Some H.Case) (more s (more t (more u no_trees))) at inner x n found read =
      split_spells H.Case (λ e. R.Case e) (λ e a b. refl) (λ e a b. refl) word s t u at inner x n (found H.Case refl) (λ k y m e. entail_spells t k y m e) (λ k y m e. entail_spells u k y m e) read
  built_spells word (Some H.Cut) (more s (more t (more u no_trees))) at inner x n found read =
      split_spells H.Cut (λ e. R.Cut e) (λ e a b. refl) (λ e a b. refl) word s t u at inner x n (found H.Cut refl) (λ k y m e. entail_spells t k y m e) (λ k y m e. entail_spells u k y m e) read
  built_spells word (Some H.Absurd) (more t no_trees) at inner x n found read =
      one_spells H.Absurd R.Absurd (λ a. refl) (λ a. refl) word t at inner x n (found H.Absurd refl) (λ k y m e. entail_spells t k y m e) read
  built_spells word (Some H.Rewrite) (more r (more s (more v (more t (more u no_trees))))) at inner x n found read =
      rewrite_spells word r s v t u at inner x n (found H.Rewrite refl) (λ k y m e. entail_spells t k y m e) (λ k y m e. entail_spells u k y m e) read
  built_spells word (Some H.Step) (more s (more t no_trees)) at inner x n found read = step_spells word s t at inner x n (found H.Step refl) (λ k y m e. entail_spells t k y m e) read
  built_spells word (Some H.Linear) ts at inner x n found read = linear_spells word ts at inner x n (first_of ts) (found H.Linear refl) refl read
  built_spells word _ _ at inner x n found read = absurd cc
