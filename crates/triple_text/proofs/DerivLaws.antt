-- The tree of a derivation is read as the derivation, and what is read as a derivation is its tree.
use Rattle.std.proofs.Common.{◌≡◌, ◌<◌, ℕ, ◌^◌, true, ◌&&◌, List, Option, Some, None, Ok, refl, ap, ap₂, sym, subst, ◌∙◌, arith}
use Rattle.std.specs.Prelude.{nat_lt}
use Rattle.std.specs.Fmt.{decimal}
use Rattle.std.proofs.lemmas.Bool.{and_parts, and_from, ltb-true, lt-ltb, false≢true}
use Rattle.c_values.specs.Name.{Name}
use Rattle.ac_sx.specs.Tree.{Tree, Trees, Atom, Node, no_trees, more}
use Rattle.ac_sx.specs.CodeSx.{one_of, two_of}
use Rattle.expression_lang.specs.Expression.{Exp}
use Rattle.expression_text.specs.Reading.{Read, next, ◌>>=◌}
use Rattle.expression_text.specs.Numbers.{natural_at}
use Rattle.expression_text.specs.Words.{looked_up}
use Rattle.expression_text.specs.ExpText.{exp_tree, is_exp}
use Rattle.expression_text.specs.ExpReading.{exp_at}
use Rattle.expression_text.specs.Lists.{each, exp_trees}
use Rattle.expression_text.proofs.LookedUp.{looked_up_is}
use Rattle.expression_text.proofs.Behind.{behind, IsReadAs, bind_ok, value_ok}
use Rattle.expression_text.proofs.TypesText.{natural_reads, natural_spells}
use Rattle.expression_text.proofs.ExpsText.{exp_reads, exp_spells}
use Rattle.expression_text.proofs.ListLaws.{exps_read, exps_spell}
use Rattle.program_text.specs.MonText.{two, three}
use Rattle.program_text.proofs.KindLaws.{one_is}
use Rattle.program_text.proofs.PartLaws.{two_is, three_same}
use Rattle.rule_trees.specs.RuleTree as rules
use Rattle.triple_lang.specs.Deriv as R
use Rattle.triple_text.specs.declared.deriv_heads.DerivHead.{DerivHead}
use Rattle.triple_text.specs.declared.deriv_heads.DerivHead.TheVariants as H
use Rattle.triple_text.specs.Words.{deriv_head_word, deriv_heads}
use Rattle.triple_text.specs.Parts.{six_of}
use Rattle.triple_text.specs.DerivText.{deriv_tree, is_shown, is_deriv, is_deriv_node}
use Rattle.triple_text.specs.DerivReading.{shown_at, values_at, given_row, guard_row, call_row, pick_row, deriv_at, built_deriv_at}
use Rattle.triple_text.specs.CodeDerivRows.{bind_row, if_row, loop_row}
use Rattle.triple_text.specs.Answer.{IsDerivTree}
use Rattle.triple_text.proofs.Parted.{six, six_same, six_is, seven, seven_same}
use Rattle.triple_text.proofs.Shown.{shown_reads, shown_spells}
use Rattle.triple_text.proofs.EntailLaws.{one}
use Rattle.triple_text.proofs.DerivRows.{heads_found}

abbrev Derivation : Type 0
Derivation = rules.Tree R.Rule

abbrev parts_one : Derivation → rules.Trees R.Rule
parts_one t = rules.tree t rules.no_trees

abbrev parts_two : Derivation → Derivation → rules.Trees R.Rule
parts_two t u = rules.tree t (parts_one u)

abbrev parts_four : Derivation → Derivation → Derivation → Derivation → rules.Trees R.Rule
parts_four t u v w = rules.tree t (rules.tree u (parts_two v w))

-- a list that begins with a head
abbrev begins : DerivHead → Trees → Tree
begins h ts = Node (more (Atom (deriv_head_word h)) ts)

row_reads : (h : DerivHead) (ts : Trees) (at : ℕ) → deriv_at at (begins h ts) ≡ built_deriv_at at (next (next at)) (Some h) ts
row_reads h ts at = ap (λ o. built_deriv_at at (next (next at)) o ts) (heads_found h)

values_read : (es : List Exp) → each is_exp es ≡ true → IsReadAs values_at (Node (exp_trees es)) es
values_read es is = λ at. exps_read es is (next at)

values_spell : (t : Tree) (at : ℕ) (es : List Exp) (n : ℕ) → values_at at t ≡ Ok (es, n) → (t ≡ Node (exp_trees es)) × (each is_exp es ≡ true)
values_spell (Atom word) at es n read = absurd cc
values_spell (Node ts) at es n read = let h = exps_spell ts (next at) es n read in (ap Node h.0, h.1)

position_reads : (k : ℕ) → nat_lt k (2 ^ 128) ≡ true → IsReadAs (natural_at (2 ^ 128)) (Atom (decimal k)) k
position_reads k is = λ at. natural_reads (2 ^ 128) k (ltb-true k (2 ^ 128) is) (omega arith) at

given_reads : (h : DerivHead) (rule : Exp → R.Rule) → ((at inner : ℕ) (t u : Tree) → built_deriv_at at inner (Some h) (two t u) ≡ given_row at inner rule (Some (t, u))) →
    (e : Exp) (t : Derivation) → (is_exp e && is_shown t) ≡ true → IsReadAs deriv_at (begins h (two (exp_tree e) (deriv_tree t))) (rules.node (rule e) (parts_one t))
given_reads h rule is e t both = λ at.
    let p = and_parts (is_exp e) (is_shown t) both in
    row_reads h (two (exp_tree e) (deriv_tree t)) at
    ∙ is at (next (next at)) (exp_tree e) (deriv_tree t)
    ∙ ap (λ r. r >>= λ x. shown_at x.1 (deriv_tree t) >>= λ y. Ok (rules.node (rule x.0) (parts_one y.0), y.1)) (exp_reads e p.0 (next (next at)))
    ∙ ap (λ r. r >>= λ y. Ok (rules.node (rule e) (parts_one y.0), y.1)) (shown_reads t p.1 (behind (next (next at)) (exp_tree e)))

bind_reads : (e : Exp) (t u : Derivation) → is_exp e ≡ true → IsReadAs deriv_at (deriv_tree t) t → IsReadAs deriv_at (deriv_tree u) u →
    IsReadAs deriv_at (begins H.Bind (three (exp_tree e) (deriv_tree t) (deriv_tree u))) (rules.node (R.Bind e) (parts_two t u))
bind_reads e t u fine k l = λ at.
    row_reads H.Bind (three (exp_tree e) (deriv_tree t) (deriv_tree u)) at
    ∙ ap (λ r. r >>= λ x. deriv_at x.1 (deriv_tree t) >>= λ y. deriv_at y.1 (deriv_tree u) >>= λ z. Ok (rules.node (R.Bind x.0) (parts_two y.0 z.0), z.1)) (exp_reads e fine (next (next at)))
    ∙ ap (λ r. r >>= λ y. deriv_at y.1 (deriv_tree u) >>= λ z. Ok (rules.node (R.Bind e) (parts_two y.0 z.0), z.1)) (k (behind (next (next at)) (exp_tree e)))
    ∙ ap (λ r. r >>= λ z. Ok (rules.node (R.Bind e) (parts_two t z.0), z.1)) (l (behind (behind (next (next at)) (exp_tree e)) (deriv_tree t)))

guard_reads : (t u : Derivation) → (is_shown t && is_shown u) ≡ true → IsReadAs deriv_at (begins H.Guard (two (deriv_tree t) (deriv_tree u))) (rules.node R.Guard (parts_two t u))
guard_reads t u both = λ at.
    let p = and_parts (is_shown t) (is_shown u) both in
    row_reads H.Guard (two (deriv_tree t) (deriv_tree u)) at
    ∙ ap (λ r. r >>= λ x. shown_at x.1 (deriv_tree u) >>= λ y. Ok (rules.node R.Guard (parts_two x.0 y.0), y.1)) (shown_reads t p.0 (next (next at)))
    ∙ ap (λ r. r >>= λ y. Ok (rules.node R.Guard (parts_two t y.0), y.1)) (shown_reads u p.1 (behind (next (next at)) (deriv_tree t)))

if_reads : (t u : Derivation) → IsReadAs deriv_at (deriv_tree t) t → IsReadAs deriv_at (deriv_tree u) u → IsReadAs deriv_at (begins H.If (two (deriv_tree t) (deriv_tree u))) (rules.node R.If (parts_two t u))
if_reads t u k l = λ at.
    row_reads H.If (two (deriv_tree t) (deriv_tree u)) at
    ∙ ap (λ r. r >>= λ x. deriv_at x.1 (deriv_tree u) >>= λ y. Ok (rules.node R.If (parts_two x.0 y.0), y.1)) (k (next (next at)))
    ∙ ap (λ r. r >>= λ y. Ok (rules.node R.If (parts_two t y.0), y.1)) (l (behind (next (next at)) (deriv_tree t)))

pick_reads : (t : Derivation) → is_shown t ≡ true → IsReadAs deriv_at (begins H.Pick (one (deriv_tree t))) (rules.node R.Pick (parts_one t))
pick_reads t fine = λ at.
    row_reads H.Pick (one (deriv_tree t)) at
    ∙ ap (λ r. r >>= λ x. Ok (rules.node R.Pick (parts_one x.0), x.1)) (shown_reads t fine (next (next at)))

loop_reads : (i f l : Exp) (t u v w : Derivation) → is_deriv_node (R.Loop i f l) (parts_four t u v w) ≡ true → (is_deriv v ≡ true → IsReadAs deriv_at (deriv_tree v) v) →
    IsReadAs deriv_at (begins H.Loop (seven (exp_tree i) (exp_tree f) (deriv_tree t) (deriv_tree u) (deriv_tree v) (exp_tree l) (deriv_tree w))) (rules.node (R.Loop i f l) (parts_four t u v w))
loop_reads i f l t u v w is kept = λ at.
    let p0 = and_parts (is_exp i) (is_exp f && (is_shown t && (is_shown u && (is_deriv v && (is_exp l && is_shown w))))) is in
    let p1 = and_parts (is_exp f) (is_shown t && (is_shown u && (is_deriv v && (is_exp l && is_shown w)))) p0.1 in
    let p2 = and_parts (is_shown t) (is_shown u && (is_deriv v && (is_exp l && is_shown w))) p1.1 in
    let p3 = and_parts (is_shown u) (is_deriv v && (is_exp l && is_shown w)) p2.1 in
    let p4 = and_parts (is_deriv v) (is_exp l && is_shown w) p3.1 in
    let p5 = and_parts (is_exp l) (is_shown w) p4.1 in
    row_reads H.Loop (seven (exp_tree i) (exp_tree f) (deriv_tree t) (deriv_tree u) (deriv_tree v) (exp_tree l) (deriv_tree w)) at
    ∙ ap (λ r. r >>= λ x. exp_at x.1 (exp_tree f) >>= λ y. shown_at y.1 (deriv_tree t) >>= λ z. shown_at z.1 (deriv_tree u) >>= λ g. deriv_at g.1 (deriv_tree v) >>= λ k. exp_at k.1 (exp_tree l) >>= λ e. shown_at e.1 (deriv_tree w) >>= λ q. Ok (rules.node (R.Loop x.0 y.0 e.0) (parts_four z.0 g.0 k.0 q.0), q.1)) (exp_reads i p0.0 (next (next at)))
    ∙ ap (λ r. r >>= λ y. shown_at y.1 (deriv_tree t) >>= λ z. shown_at z.1 (deriv_tree u) >>= λ g. deriv_at g.1 (deriv_tree v) >>= λ k. exp_at k.1 (exp_tree l) >>= λ e. shown_at e.1 (deriv_tree w) >>= λ q. Ok (rules.node (R.Loop i y.0 e.0) (parts_four z.0 g.0 k.0 q.0), q.1)) (exp_reads f p1.0 (behind (next (next at)) (exp_tree i)))
    ∙ ap (λ r. r >>= λ z. shown_at z.1 (deriv_tree u) >>= λ g. deriv_at g.1 (deriv_tree v) >>= λ k. exp_at k.1 (exp_tree l) >>= λ e. shown_at e.1 (deriv_tree w) >>= λ q. Ok (rules.node (R.Loop i f e.0) (parts_four z.0 g.0 k.0 q.0), q.1)) (shown_reads t p2.0 (behind (behind (next (next at)) (exp_tree i)) (exp_tree f)))
    ∙ ap (λ r. r >>= λ g. deriv_at g.1 (deriv_tree v) >>= λ k. exp_at k.1 (exp_tree l) >>= λ e. shown_at e.1 (deriv_tree w) >>= λ q. Ok (rules.node (R.Loop i f e.0) (parts_four t g.0 k.0 q.0), q.1)) (shown_reads u p3.0 (behind (behind (behind (next (next at)) (exp_tree i)) (exp_tree f)) (deriv_tree t)))
    ∙ ap (λ r. r >>= λ k. exp_at k.1 (exp_tree l) >>= λ e. shown_at e.1 (deriv_tree w) >>= λ q. Ok (rules.node (R.Loop i f e.0) (parts_four t u k.0 q.0), q.1)) (kept p4.0 (behind (behind (behind (behind (next (next at)) (exp_tree i)) (exp_tree f)) (deriv_tree t)) (deriv_tree u)))
    ∙ ap (λ r. r >>= λ e. shown_at e.1 (deriv_tree w) >>= λ q. Ok (rules.node (R.Loop i f e.0) (parts_four t u v q.0), q.1)) (exp_reads l p5.0 (behind (behind (behind (behind (behind (next (next at)) (exp_tree i)) (exp_tree f)) (deriv_tree t)) (deriv_tree u)) (deriv_tree v)))
    ∙ ap (λ r. r >>= λ q. Ok (rules.node (R.Loop i f l) (parts_four t u v q.0), q.1)) (shown_reads w p5.1 (behind (behind (behind (behind (behind (behind (next (next at)) (exp_tree i)) (exp_tree f)) (deriv_tree t)) (deriv_tree u)) (deriv_tree v)) (exp_tree l)))

call_reads : (k : ℕ) (es : List Exp) (b a : Exp) (t u : Derivation) → is_deriv_node (R.Call k es b a) (parts_two t u) ≡ true →
    IsReadAs deriv_at (begins H.Call (six (Atom (decimal k)) (Node (exp_trees es)) (exp_tree b) (deriv_tree t) (exp_tree a) (deriv_tree u))) (rules.node (R.Call k es b a) (parts_two t u))
call_reads k es b a t u is = λ at.
    let p0 = and_parts (nat_lt k (2 ^ 128)) (each is_exp es && (is_exp b && (is_shown t && (is_exp a && is_shown u)))) is in
    let p1 = and_parts (each is_exp es) (is_exp b && (is_shown t && (is_exp a && is_shown u))) p0.1 in
    let p2 = and_parts (is_exp b) (is_shown t && (is_exp a && is_shown u)) p1.1 in
    let p3 = and_parts (is_shown t) (is_exp a && is_shown u) p2.1 in
    let p4 = and_parts (is_exp a) (is_shown u) p3.1 in
    row_reads H.Call (six (Atom (decimal k)) (Node (exp_trees es)) (exp_tree b) (deriv_tree t) (exp_tree a) (deriv_tree u)) at
    ∙ ap (λ r. r >>= λ n. values_at n.1 (Node (exp_trees es)) >>= λ v. exp_at v.1 (exp_tree b) >>= λ x. shown_at x.1 (deriv_tree t) >>= λ y. exp_at y.1 (exp_tree a) >>= λ z. shown_at z.1 (deriv_tree u) >>= λ w. Ok (rules.node (R.Call n.0 v.0 x.0 z.0) (parts_two y.0 w.0), w.1)) (position_reads k p0.0 (next (next at)))
    ∙ ap (λ r. r >>= λ v. exp_at v.1 (exp_tree b) >>= λ x. shown_at x.1 (deriv_tree t) >>= λ y. exp_at y.1 (exp_tree a) >>= λ z. shown_at z.1 (deriv_tree u) >>= λ w. Ok (rules.node (R.Call k v.0 x.0 z.0) (parts_two y.0 w.0), w.1)) (values_read es p1.0 (behind (next (next at)) (Atom (decimal k))))
    ∙ ap (λ r. r >>= λ x. shown_at x.1 (deriv_tree t) >>= λ y. exp_at y.1 (exp_tree a) >>= λ z. shown_at z.1 (deriv_tree u) >>= λ w. Ok (rules.node (R.Call k es x.0 z.0) (parts_two y.0 w.0), w.1)) (exp_reads b p2.0 (behind (behind (next (next at)) (Atom (decimal k))) (Node (exp_trees es))))
    ∙ ap (λ r. r >>= λ y. exp_at y.1 (exp_tree a) >>= λ z. shown_at z.1 (deriv_tree u) >>= λ w. Ok (rules.node (R.Call k es b z.0) (parts_two y.0 w.0), w.1)) (shown_reads t p3.0 (behind (behind (behind (next (next at)) (Atom (decimal k))) (Node (exp_trees es))) (exp_tree b)))
    ∙ ap (λ r. r >>= λ z. shown_at z.1 (deriv_tree u) >>= λ w. Ok (rules.node (R.Call k es b z.0) (parts_two t w.0), w.1)) (exp_reads a p4.0 (behind (behind (behind (behind (next (next at)) (Atom (decimal k))) (Node (exp_trees es))) (exp_tree b)) (deriv_tree t)))
    ∙ ap (λ r. r >>= λ w. Ok (rules.node (R.Call k es b a) (parts_two t w.0), w.1)) (shown_reads u p4.1 (behind (behind (behind (behind (behind (next (next at)) (Atom (decimal k))) (Node (exp_trees es))) (exp_tree b)) (deriv_tree t)) (exp_tree a)))

mutual
  pub deriv_reads : (x : rules.Tree R.Rule) → is_deriv x ≡ true → IsReadAs deriv_at (deriv_tree x) x
  deriv_reads (rules.node r ts) is = node_reads r ts is

  node_reads : (r : R.Rule) (ts : rules.Trees R.Rule) → is_deriv_node r ts ≡ true → IsReadAs deriv_at (deriv_tree (rules.node r ts)) (rules.node r ts)
  node_reads (R.Ret e) (rules.tree t rules.no_trees) is = given_reads H.Ret (λ a. R.Ret a) (λ at inner s u. refl) e t is
  node_reads (R.Bind e) (rules.tree t (rules.tree u rules.no_trees)) is =
      let p = and_parts (is_exp e) (is_deriv t && is_deriv u) is in
      let q = and_parts (is_deriv t) (is_deriv u) p.1 in
      bind_reads e t u p.0 (deriv_reads t q.0) (deriv_reads u q.1)
  node_reads R.Guard (rules.tree t (rules.tree u rules.no_trees)) is = guard_reads t u is
  node_reads R.If (rules.tree t (rules.tree u rules.no_trees)) is =
      let p = and_parts (is_deriv t) (is_deriv u) is in
      if_reads t u (deriv_reads t p.0) (deriv_reads u p.1)
  node_reads (R.Loop i f l) (rules.tree t (rules.tree u (rules.tree v (rules.tree w rules.no_trees)))) is = loop_reads i f l t u v w is (λ fine. deriv_reads v fine)
  node_reads (R.Call k es b a) (rules.tree t (rules.tree u rules.no_trees)) is = call_reads k es b a t u is
  node_reads R.Pick (rules.tree t rules.no_trees) is = pick_reads t is
  node_reads (R.Write e) (rules.tree t rules.no_trees) is = given_reads H.Write (λ a. R.Write a) (λ at inner s u. refl) e t is
  node_reads (R.Gset e) (rules.tree t rules.no_trees) is = given_reads H.Gset (λ a. R.Gset a) (λ at inner s u. refl) e t is
  node_reads _ _ is = absurd (false≢true is)

-- the other way round
abbrev Spells : Tree → Type 0
Spells t = (at : ℕ) (x : rules.Tree R.Rule) (n : ℕ) → deriv_at at t ≡ Ok (x, n) → IsDerivTree t x

moved : (t : Tree) (x y : rules.Tree R.Rule) → x ≡ y → t ≡ deriv_tree x → is_deriv x ≡ true → IsDerivTree t y
moved t x y same is fine = (is ∙ ap deriv_tree same, ap is_deriv (sym same) ∙ fine)

headed_as : (word : Name) (h : DerivHead) (ts : Trees) → deriv_head_word h ≡ word → Node (more (Atom word) ts) ≡ begins h ts
headed_as word h ts e = ap (λ w. Node (more (Atom w) ts)) (sym e)

given_spells : (h : DerivHead) (rule : Exp → R.Rule) → ((e : Exp) (a : Derivation) → deriv_tree (rules.node (rule e) (parts_one a)) ≡ begins h (two (exp_tree e) (deriv_tree a))) →
    ((e : Exp) (a : Derivation) → is_deriv (rules.node (rule e) (parts_one a)) ≡ (is_exp e && is_shown a)) →
    (word : Name) (ts : Trees) (at inner : ℕ) (x : Derivation) (n : ℕ) (o : Option (Tree × Tree)) → deriv_head_word h ≡ word → two_of ts ≡ o → given_row at inner rule o ≡ Ok (x, n) → IsDerivTree (Node (more (Atom word) ts)) x
given_spells h rule text fine word ts at inner x n None found is read = absurd cc
given_spells h rule text fine word ts at inner x n (Some (t, u)) found is read =
    let (e, read0, others0) = bind_ok (exp_at inner t) (λ e. shown_at e.1 u >>= λ a. Ok (rules.node (rule e.0) (parts_one a.0), a.1)) (x, n) read in
    let (a, read1, last) = bind_ok (shown_at e.1 u) (λ a. Ok (rules.node (rule e.0) (parts_one a.0), a.1)) (x, n) others0 in
    let h0 = exp_spells t inner e.0 e.1 read0 in
    let h1 = shown_spells u e.1 a.0 a.1 read1 in
    let same = value_ok (rules.node (rule e.0) (parts_one a.0)) a.1 x n last in
    moved (Node (more (Atom word) ts)) (rules.node (rule e.0) (parts_one a.0)) x same
    (headed_as word h ts found ∙ ap (begins h) (two_is ts (t, u) is ∙ ap₂ two h0.0 h1.0) ∙ sym (text e.0 a.0)) (fine e.0 a.0 ∙ and_from (is_exp e.0) (is_shown a.0) h0.1 h1.1)

guard_spells : (word : Name) (ts : Trees) (at inner : ℕ) (x : Derivation) (n : ℕ) (o : Option (Tree × Tree)) → deriv_head_word H.Guard ≡ word → two_of ts ≡ o → guard_row at inner o ≡ Ok (x, n) → IsDerivTree (Node (more (Atom word) ts)) x
guard_spells word ts at inner x n None found is read = absurd cc
guard_spells word ts at inner x n (Some (t, u)) found is read =
    let (a, read0, others0) = bind_ok (shown_at inner t) (λ a. shown_at a.1 u >>= λ b. Ok (rules.node R.Guard (parts_two a.0 b.0), b.1)) (x, n) read in
    let (b, read1, last) = bind_ok (shown_at a.1 u) (λ b. Ok (rules.node R.Guard (parts_two a.0 b.0), b.1)) (x, n) others0 in
    let h0 = shown_spells t inner a.0 a.1 read0 in
    let h1 = shown_spells u a.1 b.0 b.1 read1 in
    let same = value_ok (rules.node R.Guard (parts_two a.0 b.0)) b.1 x n last in
    moved (Node (more (Atom word) ts)) (rules.node R.Guard (parts_two a.0 b.0)) x same
    (headed_as word H.Guard ts found ∙ ap (begins H.Guard) (two_is ts (t, u) is ∙ ap₂ two h0.0 h1.0)) (and_from (is_shown a.0) (is_shown b.0) h0.1 h1.1)

pick_spells : (word : Name) (ts : Trees) (at inner : ℕ) (x : Derivation) (n : ℕ) (o : Option Tree) → deriv_head_word H.Pick ≡ word → one_of ts ≡ o → pick_row at inner o ≡ Ok (x, n) → IsDerivTree (Node (more (Atom word) ts)) x
pick_spells word ts at inner x n None found is read = absurd cc
pick_spells word ts at inner x n (Some t) found is read =
    let (a, read0, last) = bind_ok (shown_at inner t) (λ a. Ok (rules.node R.Pick (parts_one a.0), a.1)) (x, n) read in
    let h0 = shown_spells t inner a.0 a.1 read0 in
    let same = value_ok (rules.node R.Pick (parts_one a.0)) a.1 x n last in
    moved (Node (more (Atom word) ts)) (rules.node R.Pick (parts_one a.0)) x same (headed_as word H.Pick ts found ∙ ap (begins H.Pick) (one_is ts t is ∙ ap one h0.0)) h0.1

bind_spells : (word : Name) (s t u : Tree) (at inner : ℕ) (x : Derivation) (n : ℕ) → deriv_head_word H.Bind ≡ word → Spells t → Spells u → bind_row at inner (Some (s, t, u)) ≡ Ok (x, n) → IsDerivTree (Node (more (Atom word) (three s t u))) x
bind_spells word s t u at inner x n found spells_t spells_u read =
    let (e, read0, others0) = bind_ok (exp_at inner s) (λ e. deriv_at e.1 t >>= λ a. deriv_at a.1 u >>= λ b. Ok (rules.node (R.Bind e.0) (parts_two a.0 b.0), b.1)) (x, n) read in
    let (a, read1, others1) = bind_ok (deriv_at e.1 t) (λ a. deriv_at a.1 u >>= λ b. Ok (rules.node (R.Bind e.0) (parts_two a.0 b.0), b.1)) (x, n) others0 in
    let (b, read2, last) = bind_ok (deriv_at a.1 u) (λ b. Ok (rules.node (R.Bind e.0) (parts_two a.0 b.0), b.1)) (x, n) others1 in
    let h0 = exp_spells s inner e.0 e.1 read0 in
    let h1 = spells_t e.1 a.0 a.1 read1 in
    let h2 = spells_u a.1 b.0 b.1 read2 in
    let same = value_ok (rules.node (R.Bind e.0) (parts_two a.0 b.0)) b.1 x n last in
    moved (Node (more (Atom word) (three s t u))) (rules.node (R.Bind e.0) (parts_two a.0 b.0)) x same
    (headed_as word H.Bind (three s t u) found ∙ ap (begins H.Bind) (three_same h0.0 h1.0 h2.0)) (and_from (is_exp e.0) (is_deriv a.0 && is_deriv b.0) h0.1 (and_from (is_deriv a.0) (is_deriv b.0) h1.1 h2.1))

if_spells : (word : Name) (t u : Tree) (at inner : ℕ) (x : Derivation) (n : ℕ) → deriv_head_word H.If ≡ word → Spells t → Spells u → if_row at inner (Some (t, u)) ≡ Ok (x, n) → IsDerivTree (Node (more (Atom word) (two t u))) x
if_spells word t u at inner x n found spells_t spells_u read =
    let (a, read0, others0) = bind_ok (deriv_at inner t) (λ a. deriv_at a.1 u >>= λ b. Ok (rules.node R.If (parts_two a.0 b.0), b.1)) (x, n) read in
    let (b, read1, last) = bind_ok (deriv_at a.1 u) (λ b. Ok (rules.node R.If (parts_two a.0 b.0), b.1)) (x, n) others0 in
    let h0 = spells_t inner a.0 a.1 read0 in
    let h1 = spells_u a.1 b.0 b.1 read1 in
    let same = value_ok (rules.node R.If (parts_two a.0 b.0)) b.1 x n last in
    moved (Node (more (Atom word) (two t u))) (rules.node R.If (parts_two a.0 b.0)) x same
    (headed_as word H.If (two t u) found ∙ ap (begins H.If) (ap₂ two h0.0 h1.0)) (and_from (is_deriv a.0) (is_deriv b.0) h0.1 h1.1)

-- a tree that is an expression's, and one that is the tree of rules of assertions
abbrev IsOfExp : Tree → Exp → Type 0
IsOfExp t e = (t ≡ exp_tree e) × (is_exp e ≡ true)

abbrev IsOfShown : Tree → Derivation → Type 0
IsOfShown t a = (t ≡ deriv_tree a) × (is_shown a ≡ true)

loop_made : (word : Name) (p q r s t u v : Tree) (i f : Exp) (a b c : Derivation) (l : Exp) (d x : Derivation) → deriv_head_word H.Loop ≡ word →
    IsOfExp p i → IsOfExp q f → IsOfShown r a → IsOfShown s b → IsDerivTree t c → IsOfExp u l → IsOfShown v d →
    rules.node (R.Loop i f l) (parts_four a b c d) ≡ x → IsDerivTree (Node (more (Atom word) (seven p q r s t u v))) x
loop_made word p q r s t u v i f a b c l d x found h0 h1 h2 h3 h4 h5 h6 same =
    moved (Node (more (Atom word) (seven p q r s t u v))) (rules.node (R.Loop i f l) (parts_four a b c d)) x same
    (headed_as word H.Loop (seven p q r s t u v) found ∙ ap (begins H.Loop) (seven_same h0.0 h1.0 h2.0 h3.0 h4.0 h5.0 h6.0))
    (and_from (is_exp i) (is_exp f && (is_shown a && (is_shown b && (is_deriv c && (is_exp l && is_shown d))))) h0.1
    (and_from (is_exp f) (is_shown a && (is_shown b && (is_deriv c && (is_exp l && is_shown d)))) h1.1
    (and_from (is_shown a) (is_shown b && (is_deriv c && (is_exp l && is_shown d))) h2.1
    (and_from (is_shown b) (is_deriv c && (is_exp l && is_shown d)) h3.1
    (and_from (is_deriv c) (is_exp l && is_shown d) h4.1 (and_from (is_exp l) (is_shown d) h5.1 h6.1))))))

-- from the loop's body on
abbrev loop_rest : Exp → Exp → Derivation → Derivation → ℕ → Tree → Tree → Tree → Read Derivation
loop_rest i f a b m t u v = deriv_at m t >>= λ c. exp_at c.1 u >>= λ l. shown_at l.1 v >>= λ d. Ok (rules.node (R.Loop i f l.0) (parts_four a b c.0 d.0), d.1)

loop_ends : (word : Name) (p q r s t u v : Tree) (i f : Exp) (a b : Derivation) (m : ℕ) (x : Derivation) (n : ℕ) → deriv_head_word H.Loop ≡ word → Spells t →
    IsOfExp p i → IsOfExp q f → IsOfShown r a → IsOfShown s b →
    loop_rest i f a b m t u v ≡ Ok (x, n) →
    IsDerivTree (Node (more (Atom word) (seven p q r s t u v))) x
loop_ends word p q r s t u v i f a b m x n found spells_t h0 h1 h2 h3 read =
    let (c, read0, others0) = bind_ok (deriv_at m t) (λ c. exp_at c.1 u >>= λ l. shown_at l.1 v >>= λ d. Ok (rules.node (R.Loop i f l.0) (parts_four a b c.0 d.0), d.1)) (x, n) read in
    let (l, read1, others1) = bind_ok (exp_at c.1 u) (λ l. shown_at l.1 v >>= λ d. Ok (rules.node (R.Loop i f l.0) (parts_four a b c.0 d.0), d.1)) (x, n) others0 in
    let (d, read2, last) = bind_ok (shown_at l.1 v) (λ d. Ok (rules.node (R.Loop i f l.0) (parts_four a b c.0 d.0), d.1)) (x, n) others1 in
    loop_made word p q r s t u v i f a b c.0 l.0 d.0 x found h0 h1 h2 h3 (spells_t m c.0 c.1 read0) (exp_spells u c.1 l.0 l.1 read1)
    (shown_spells v l.1 d.0 d.1 read2) (value_ok (rules.node (R.Loop i f l.0) (parts_four a b c.0 d.0)) d.1 x n last)

loop_spells : (word : Name) (p q r s t u v : Tree) (at inner : ℕ) (x : Derivation) (n : ℕ) → deriv_head_word H.Loop ≡ word → Spells t → loop_row at inner (Some (p, q, r, s, t, u, v)) ≡ Ok (x, n) →
    IsDerivTree (Node (more (Atom word) (seven p q r s t u v))) x
loop_spells word p q r s t u v at inner x n found spells_t read =
    let (i, read0, others0) = bind_ok (exp_at inner p) (λ i. exp_at i.1 q >>= λ f. shown_at f.1 r >>= λ a. shown_at a.1 s >>= λ b. deriv_at b.1 t >>= λ c. exp_at c.1 u >>= λ l. shown_at l.1 v >>= λ d. Ok (rules.node (R.Loop i.0 f.0 l.0) (parts_four a.0 b.0 c.0 d.0), d.1)) (x, n) read in
    let (f, read1, others1) = bind_ok (exp_at i.1 q) (λ f. shown_at f.1 r >>= λ a. shown_at a.1 s >>= λ b. deriv_at b.1 t >>= λ c. exp_at c.1 u >>= λ l. shown_at l.1 v >>= λ d. Ok (rules.node (R.Loop i.0 f.0 l.0) (parts_four a.0 b.0 c.0 d.0), d.1)) (x, n) others0 in
    let (a, read2, others2) = bind_ok (shown_at f.1 r) (λ a. shown_at a.1 s >>= λ b. deriv_at b.1 t >>= λ c. exp_at c.1 u >>= λ l. shown_at l.1 v >>= λ d. Ok (rules.node (R.Loop i.0 f.0 l.0) (parts_four a.0 b.0 c.0 d.0), d.1)) (x, n) others1 in
    let (b, read3, others3) = bind_ok (shown_at a.1 s) (λ b. deriv_at b.1 t >>= λ c. exp_at c.1 u >>= λ l. shown_at l.1 v >>= λ d. Ok (rules.node (R.Loop i.0 f.0 l.0) (parts_four a.0 b.0 c.0 d.0), d.1)) (x, n) others2 in
    loop_ends word p q r s t u v i.0 f.0 a.0 b.0 b.1 x n found spells_t (exp_spells p inner i.0 i.1 read0) (exp_spells q i.1 f.0 f.1 read1)
    (shown_spells r f.1 a.0 a.1 read2) (shown_spells s a.1 b.0 b.1 read3) others3

call_made : (word : Name) (p q r s t u : Tree) (k : ℕ) (es : List Exp) (b : Exp) (c : Derivation) (a : Exp) (d x : Derivation) → deriv_head_word H.Call ≡ word →
    (p ≡ Atom (decimal k)) × (k < 2 ^ 128) → (q ≡ Node (exp_trees es)) × (each is_exp es ≡ true) → IsOfExp r b → IsOfShown s c → IsOfExp t a → IsOfShown u d →
    rules.node (R.Call k es b a) (parts_two c d) ≡ x → IsDerivTree (Node (more (Atom word) (six p q r s t u))) x
call_made word p q r s t u k es b c a d x found h0 h1 h2 h3 h4 h5 same =
    moved (Node (more (Atom word) (six p q r s t u))) (rules.node (R.Call k es b a) (parts_two c d)) x same
    (headed_as word H.Call (six p q r s t u) found ∙ ap (begins H.Call) (six_same h0.0 h1.0 h2.0 h3.0 h4.0 h5.0))
    (and_from (nat_lt k (2 ^ 128)) (each is_exp es && (is_exp b && (is_shown c && (is_exp a && is_shown d)))) (lt-ltb k (2 ^ 128) h0.1)
    (and_from (each is_exp es) (is_exp b && (is_shown c && (is_exp a && is_shown d))) h1.1
    (and_from (is_exp b) (is_shown c && (is_exp a && is_shown d)) h2.1
    (and_from (is_shown c) (is_exp a && is_shown d) h3.1 (and_from (is_exp a) (is_shown d) h4.1 h5.1)))))

-- from the derivation of what the precondition says on
abbrev call_rest : ℕ → List Exp → Exp → ℕ → Tree → Tree → Tree → Read Derivation
call_rest k es b m s t u = shown_at m s >>= λ c. exp_at c.1 t >>= λ a. shown_at a.1 u >>= λ d. Ok (rules.node (R.Call k es b a.0) (parts_two c.0 d.0), d.1)

call_ends : (word : Name) (p q r s t u : Tree) (k : ℕ) (es : List Exp) (b : Exp) (m : ℕ) (x : Derivation) (n : ℕ) → deriv_head_word H.Call ≡ word →
    (p ≡ Atom (decimal k)) × (k < 2 ^ 128) → (q ≡ Node (exp_trees es)) × (each is_exp es ≡ true) → IsOfExp r b →
    call_rest k es b m s t u ≡ Ok (x, n) →
    IsDerivTree (Node (more (Atom word) (six p q r s t u))) x
call_ends word p q r s t u k es b m x n found h0 h1 h2 read =
    let (c, read0, others0) = bind_ok (shown_at m s) (λ c. exp_at c.1 t >>= λ a. shown_at a.1 u >>= λ d. Ok (rules.node (R.Call k es b a.0) (parts_two c.0 d.0), d.1)) (x, n) read in
    let (a, read1, others1) = bind_ok (exp_at c.1 t) (λ a. shown_at a.1 u >>= λ d. Ok (rules.node (R.Call k es b a.0) (parts_two c.0 d.0), d.1)) (x, n) others0 in
    let (d, read2, last) = bind_ok (shown_at a.1 u) (λ d. Ok (rules.node (R.Call k es b a.0) (parts_two c.0 d.0), d.1)) (x, n) others1 in
    call_made word p q r s t u k es b c.0 a.0 d.0 x found h0 h1 h2 (shown_spells s m c.0 c.1 read0) (exp_spells t c.1 a.0 a.1 read1)
    (shown_spells u a.1 d.0 d.1 read2) (value_ok (rules.node (R.Call k es b a.0) (parts_two c.0 d.0)) d.1 x n last)

call_spells : (word : Name) (ts : Trees) (at inner : ℕ) (x : Derivation) (n : ℕ) (o : Option (Tree × Tree × Tree × Tree × Tree × Tree)) → deriv_head_word H.Call ≡ word → six_of ts ≡ o → call_row at inner o ≡ Ok (x, n) →
    IsDerivTree (Node (more (Atom word) ts)) x
call_spells word ts at inner x n None found is read = absurd cc
call_spells word ts at inner x n (Some (p, q, r, s, t, u)) found is read =
    let (k, read0, others0) = bind_ok (natural_at (2 ^ 128) inner p) (λ k. values_at k.1 q >>= λ es. exp_at es.1 r >>= λ b. shown_at b.1 s >>= λ c. exp_at c.1 t >>= λ a. shown_at a.1 u >>= λ d. Ok (rules.node (R.Call k.0 es.0 b.0 a.0) (parts_two c.0 d.0), d.1)) (x, n) read in
    let (es, read1, others1) = bind_ok (values_at k.1 q) (λ es. exp_at es.1 r >>= λ b. shown_at b.1 s >>= λ c. exp_at c.1 t >>= λ a. shown_at a.1 u >>= λ d. Ok (rules.node (R.Call k.0 es.0 b.0 a.0) (parts_two c.0 d.0), d.1)) (x, n) others0 in
    let (b, read2, others2) = bind_ok (exp_at es.1 r) (λ b. shown_at b.1 s >>= λ c. exp_at c.1 t >>= λ a. shown_at a.1 u >>= λ d. Ok (rules.node (R.Call k.0 es.0 b.0 a.0) (parts_two c.0 d.0), d.1)) (x, n) others1 in
    subst (λ us. IsDerivTree (Node (more (Atom word) us)) x) (sym (six_is ts (p, q, r, s, t, u) is))
    (call_ends word p q r s t u k.0 es.0 b.0 b.1 x n found (natural_spells (2 ^ 128) p inner k.0 k.1 read0) (values_spell q k.1 es.0 es.1 read1)
    (exp_spells r es.1 b.0 b.1 read2) others2)

mutual
  pub deriv_spells : (t : Tree) (at : ℕ) (x : rules.Tree R.Rule) (n : ℕ) → deriv_at at t ≡ Ok (x, n) → IsDerivTree t x
  deriv_spells (Node (more (Atom word) ts)) at x n read =
      built_spells word (looked_up deriv_head_word deriv_heads word) ts at (next (next at)) x n (λ h found. looked_up_is deriv_head_word deriv_heads word h found) read
  deriv_spells _ at x n read = absurd cc

  built_spells : (word : Name) (o : Option DerivHead) (ts : Trees) (at inner : ℕ) (x : rules.Tree R.Rule) (n : ℕ) → ((h : DerivHead) → o ≡ Some h → deriv_head_word h ≡ word) → built_deriv_at at inner o ts ≡ Ok (x, n) →
      IsDerivTree (Node (more (Atom word) ts)) x
  built_spells word (Some H.Ret) ts at inner x n found read = given_spells H.Ret (λ e. R.Ret e) (λ e a. refl) (λ e a. refl) word ts at inner x n (two_of ts) (found H.Ret refl) refl read
  built_spells word (Some H.Write) ts at inner x n found read = given_spells H.Write (λ e. R.Write e) (λ e a. refl) (λ e a. refl) word ts at inner x n (two_of ts) (found H.Write refl) refl read
  built_spells word (Some H.Gset) ts at inner x n found read = given_spells H.Gset (λ e. R.Gset e) (λ e a. refl) (λ e a. refl) word ts at inner x n (two_of ts) (found H.Gset refl) refl read
  built_spells word (Some H.Guard) ts at inner x n found read = guard_spells word ts at inner x n (two_of ts) (found H.Guard refl) refl read
  built_spells word (Some H.Pick) ts at inner x n found read = pick_spells word ts at inner x n (one_of ts) (found H.Pick refl) refl read
  built_spells word (Some H.Call) ts at inner x n found read = call_spells word ts at inner x n (six_of ts) (found H.Call refl) refl read
  built_spells word (Some H.Bind) (more s (more t (more u no_trees))) at inner x n found read =
      bind_spells word s t u at inner x n (found H.Bind refl) (λ k y m e. deriv_spells t k y m e) (λ k y m e. deriv_spells u k y m e) read
  built_spells word (Some H.If) (more t (more u no_trees)) at inner x n found read =
      if_spells word t u at inner x n (found H.If refl) (λ k y m e. deriv_spells t k y m e) (λ k y m e. deriv_spells u k y m e) read
  built_spells word (Some H.Loop) (more p (more q (more r (more s (more t (more u (more v no_trees))))))) at inner x n found read =
      loop_spells word p q r s t u v at inner x n (found H.Loop refl) (λ k y m e. deriv_spells t k y m e) read
  built_spells word _ _ at inner x n found read = absurd cc
