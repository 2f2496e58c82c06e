-- An expression's tree is read as the expression, and what is read as an expression is its tree.
use Rattle.std.proofs.Common.{◌≡◌, ℕ, ◌^◌, ◌<◌, Bool, true, false, Option, Some, None, Ok, refl, ap, sym, subst, ◌∙◌, arith, if◌then◌else◌}
use Rattle.std.specs.Prelude.{◌&&◌, nat_lt}
use Rattle.std.specs.Fmt.{decimal}
use Rattle.std.proofs.lemmas.Bool.{and_parts, and_from, ltb-true, lt-ltb, false≢true}
use Rattle.c_values.specs.Name.{Name, same_name}
use Rattle.c_values.specs.Types.{CType}
use Rattle.ac_sx.specs.Tree.{Tree, Trees, Atom, Node, no_trees, more}
use Rattle.expression_lang.specs.Expression as E
use Rattle.expression_lang.specs.CodeShape as S
use Rattle.expression_text.specs.declared.heads.Head.{Head}
use Rattle.expression_text.specs.declared.heads.Head.TheVariants as H
use Rattle.expression_text.specs.Reading.{next, ◌>>=◌}
use Rattle.expression_text.specs.Names.{is_name, name_at}
use Rattle.expression_text.specs.Numbers.{number_text, is_number, natural_at, number_at}
use Rattle.expression_text.specs.Words.{looked_up}
use Rattle.expression_text.specs.Head.{head_word, heads}
use Rattle.expression_text.specs.Row as R
use Rattle.expression_text.specs.TypeText.{type_tree, is_type}
use Rattle.expression_text.specs.TypeReading.{type_at}
use Rattle.expression_text.specs.ExpText.{headed, field_word, element_word, exp_tree, step_trees, is_width, is_of_two, is_one_step, is_exp, is_path}
use Rattle.expression_text.specs.Answer.{IsExpText}
use Rattle.expression_text.specs.ExpReading.{width_at, row_in, StepHead, FieldStep, ElementStep, step_head, exp_at, built_exp_at, path_at, steps_at, step_at, built_step_at}
use Rattle.expression_text.proofs.LookedUp.{looked_up_is, name_is}
use Rattle.expression_text.proofs.ExpsRead.{heads_found}
use Rattle.expression_text.proofs.Behind.{behind, IsReadAs, AreReadAs, bind_ok, value_ok}
use Rattle.expression_text.proofs.RowLaws.{row_head, is_bare, is_pair, is_row, head_of_row, head_has_row, row_of_head, sized_head}
use Rattle.expression_text.proofs.TypesText.{name_reads, name_spells, natural_reads, natural_spells, type_reads, type_spells}
use Rattle.expression_text.proofs.LeavesText.{bits_small, truth_reads, var_reads, number_leaf_reads, number_reads, number_spells, width_reads, width_spells, exp_moved, leaf_spells}

-- a list with the head of a row is read by the row
row_reads : (r : R.Row) → is_row r ≡ true → (ts : Trees) (at : ℕ) → exp_at at (headed (row_head r) ts) ≡ built_exp_at at (next (next at)) (Some r) ts
row_reads r is ts at =
    ap (λ o. built_exp_at at (next (next at)) (row_in o) ts) (heads_found (row_head r)) ∙ ap (λ x. built_exp_at at (next (next at)) (Some x) ts) (row_of_head r is)

unary_reads : (one : S.One) → is_bare one ≡ true → (t : Tree) (a : E.Exp) → IsReadAs exp_at t a → IsReadAs exp_at (headed (row_head (R.UnaryRow one)) (more t no_trees)) (S.whole_one one a)
unary_reads one bare t a h = λ at. row_reads (R.UnaryRow one) bare (more t no_trees) at ∙ ap (λ r. r >>= λ x. Ok (S.whole_one one x.0, x.1)) (h (next (next at)))

sized_reads : (sized : R.Sized) (width : ℕ) → is_width width ≡ true → (t : Tree) (a : E.Exp) → IsReadAs exp_at t a →
    IsReadAs exp_at (headed (row_head (R.SizedRow sized)) (more (Atom (decimal width)) (more t no_trees))) (S.whole_one (R.sized_one sized width) a)
sized_reads sized width is t a h = λ at.
    row_reads (R.SizedRow sized) refl (more (Atom (decimal width)) (more t no_trees)) at
    ∙ ap (λ r. r >>= λ x. exp_at x.1 t >>= λ y. Ok (S.whole_one (R.sized_one sized x.0) y.0, y.1)) (width_reads width is (next (next at)))
    ∙ ap (λ r. r >>= λ y. Ok (S.whole_one (R.sized_one sized width) y.0, y.1)) (h (behind (next (next at)) (Atom (decimal width))))

two_reads : (two : S.Two) → is_pair two ≡ true → (t u : Tree) (a b : E.Exp) → IsReadAs exp_at t a → IsReadAs exp_at u b → IsReadAs exp_at (headed (row_head (R.TwoRow two)) (more t (more u no_trees))) (S.whole_two two a b)
two_reads two pair t u a b h k = λ at.
    row_reads (R.TwoRow two) pair (more t (more u no_trees)) at
    ∙ ap (λ r. r >>= λ x. exp_at x.1 u >>= λ y. Ok (S.whole_two two x.0 y.0, y.1)) (h (next (next at)))
    ∙ ap (λ r. r >>= λ y. Ok (S.whole_two two a y.0, y.1)) (k (behind (next (next at)) t))

place_reads : (place : S.PlaceHead) (ty : CType) (t : Tree) (p : E.Exp) (steps : Trees) (path : E.Path) → is_type ty ≡ true → IsReadAs exp_at t p → AreReadAs steps_at steps path →
    IsReadAs exp_at (headed (row_head (R.PlaceRow place)) (more (type_tree ty) (more t steps))) (S.whole_place place ty p path)
place_reads place ty t p steps path is h k = λ at.
    row_reads (R.PlaceRow place) refl (more (type_tree ty) (more t steps)) at
    ∙ ap (λ r. r >>= λ x. exp_at x.1 t >>= λ y. steps_at y.1 steps >>= λ z. Ok (S.whole_place place x.0 y.0 z.0, z.1)) (type_reads ty is (next (next at)))
    ∙ ap (λ r. r >>= λ y. steps_at y.1 steps >>= λ z. Ok (S.whole_place place ty y.0 z.0, z.1)) (h (behind (next (next at)) (type_tree ty)))
    ∙ ap (λ r. r >>= λ z. Ok (S.whole_place place ty p z.0, z.1)) (k (behind (behind (next (next at)) (type_tree ty)) t))

root_reads : (root : S.RootTest) (ty : CType) (t : Tree) (p : E.Exp) → is_type ty ≡ true → IsReadAs exp_at t p → IsReadAs exp_at (headed (row_head (R.RootRow root)) (more (type_tree ty) (more t no_trees))) (S.whole_root root ty p)
root_reads root ty t p is h = λ at.
    row_reads (R.RootRow root) refl (more (type_tree ty) (more t no_trees)) at
    ∙ ap (λ r. r >>= λ x. exp_at x.1 t >>= λ y. Ok (S.whole_root root x.0 y.0, y.1)) (type_reads ty is (next (next at)))
    ∙ ap (λ r. r >>= λ y. Ok (S.whole_root root ty y.0, y.1)) (h (behind (next (next at)) (type_tree ty)))

field_reads : (k : ℕ) → nat_lt k (2 ^ 32) ≡ true → IsReadAs step_at (Node (more (Atom field_word) (more (Atom (decimal k)) no_trees))) (E.IntoField k)
field_reads k is = λ at. ap (λ r. r >>= λ x. Ok (E.IntoField x.0, x.1)) (natural_reads (2 ^ 32) k (ltb-true k (2 ^ 32) is) (omega arith) (next (next at)))

element_reads : (t : Tree) (e : E.Exp) → IsReadAs exp_at t e → IsReadAs step_at (Node (more (Atom element_word) (more t no_trees))) (E.IntoElement e)
element_reads t e h = λ at. ap (λ r. r >>= λ x. Ok (E.IntoElement x.0, x.1)) (h (next (next at)))

step_more : (s : Tree) (step : E.Path → E.Path) (ss : Trees) (path : E.Path) → IsReadAs step_at s step → AreReadAs steps_at ss path → AreReadAs steps_at (more s ss) (step path)
step_more s step ss path h k = λ at.
    ap (λ r. r >>= λ x. steps_at x.1 ss >>= λ y. Ok (x.0 y.0, y.1)) (h at) ∙ ap (λ r. r >>= λ y. Ok (step y.0, y.1)) (k (behind at s))

sel_reads : (t s : Tree) (e : E.Exp) (step : E.Path → E.Path) → IsReadAs exp_at t e → IsReadAs step_at s step → IsReadAs exp_at (headed H.Sel (more t (more s no_trees))) (E.Sel e (step E.Here))
sel_reads t s e step h k = λ at.
    row_reads R.SelRow refl (more t (more s no_trees)) at
    ∙ ap (λ r. r >>= λ x. step_at x.1 s >>= λ y. Ok (E.Sel x.0 (y.0 E.Here), y.1)) (h (next (next at)))
    ∙ ap (λ r. r >>= λ y. Ok (E.Sel e (y.0 E.Here), y.1)) (k (behind (next (next at)) t))

mutual
  pub exp_reads : (e : E.Exp) → is_exp e ≡ true → IsReadAs exp_at (exp_tree e) e
  exp_reads (E.Var x) is = λ at. var_reads x at is
  exp_reads (E.WordLit w) is = λ at.
      let p = and_parts (is_width w.width) (nat_lt w.bits (2 ^ w.width)) is in
      row_reads R.WordRow refl (more (Atom (decimal w.width)) (more (Atom (decimal w.bits)) no_trees)) at
      ∙ ap (λ r. r >>= λ x. natural_at (2 ^ x.0) x.1 (Atom (decimal w.bits)) >>= λ y. Ok (E.WordLit (record { width = x.0; bits = y.0 }), y.1)) (width_reads w.width p.0 (next (next at)))
      ∙ ap (λ r. r >>= λ y. Ok (E.WordLit (record { width = w.width; bits = y.0 }), y.1))
      (natural_reads (2 ^ w.width) w.bits (ltb-true w.bits (2 ^ w.width) p.1) (bits_small w.width p.0) (next (next (next at))))
  exp_reads (E.NumberLit n) is = λ at. number_leaf_reads n at is
  exp_reads (E.TruthLit b) is = λ at. truth_reads b at
  exp_reads (E.WordBinary op a b) is = let p = and_parts (is_exp a) (is_exp b) is in two_reads (S.BinaryTwo op) refl (exp_tree a) (exp_tree b) a b (exp_reads a p.0) (exp_reads b p.1)
  exp_reads (E.WordShift op a b) is = let p = and_parts (is_exp a) (is_exp b) is in two_reads (S.ShiftTwo op) refl (exp_tree a) (exp_tree b) a b (exp_reads a p.0) (exp_reads b p.1)
  exp_reads (E.WordUnary op a) is = unary_reads (S.UnaryOne op) refl (exp_tree a) a (exp_reads a is)
  exp_reads (E.WordCompare op a b) is = let p = and_parts (is_exp a) (is_exp b) is in two_reads (S.CompareTwo op) refl (exp_tree a) (exp_tree b) a b (exp_reads a p.0) (exp_reads b p.1)
  exp_reads (E.Cast op width a) is = let p = and_parts (is_width width) (is_exp a) is in sized_reads (R.CastSized op) width p.0 (exp_tree a) a (exp_reads a p.1)
  exp_reads (E.ToNat a) is = unary_reads S.ToNatOne refl (exp_tree a) a (exp_reads a is)
  exp_reads (E.ToInt a) is = unary_reads S.ToIntOne refl (exp_tree a) a (exp_reads a is)
  exp_reads (E.ToWord width a) is = let p = and_parts (is_width width) (is_exp a) is in sized_reads R.ToWordSized width p.0 (exp_tree a) a (exp_reads a p.1)
  exp_reads (E.Arith op a b) is =
      let q = and_parts (is_of_two op) (is_exp a && is_exp b) is in
      let p = and_parts (is_exp a) (is_exp b) q.1 in
      two_reads (S.ArithTwo op) q.0 (exp_tree a) (exp_tree b) a b (exp_reads a p.0) (exp_reads b p.1)
  exp_reads (E.Negate a) is = unary_reads S.NegateOne refl (exp_tree a) a (exp_reads a is)
  exp_reads (E.Lt a b) is = let p = and_parts (is_exp a) (is_exp b) is in two_reads S.LtTwo refl (exp_tree a) (exp_tree b) a b (exp_reads a p.0) (exp_reads b p.1)
  exp_reads (E.Le a b) is = let p = and_parts (is_exp a) (is_exp b) is in two_reads S.LeTwo refl (exp_tree a) (exp_tree b) a b (exp_reads a p.0) (exp_reads b p.1)
  exp_reads (E.Between low a high) is = λ at.
      let q = and_parts (is_number low) (is_exp a && is_number high) is in
      let p = and_parts (is_exp a) (is_number high) q.1 in
      let h = exp_reads a p.0 in
      row_reads R.BetweenRow refl (more (Atom (number_text low)) (more (exp_tree a) (more (Atom (number_text high)) no_trees))) at
      ∙ ap (λ r. r >>= λ x. exp_at x.1 (exp_tree a) >>= λ y. number_at y.1 (Atom (number_text high)) >>= λ z. Ok (E.Between x.0 y.0 z.0, z.1)) (number_reads low q.0 (next (next at)))
      ∙ ap (λ r. r >>= λ y. number_at y.1 (Atom (number_text high)) >>= λ z. Ok (E.Between low y.0 z.0, z.1)) (h (next (next (next at))))
      ∙ ap (λ r. r >>= λ z. Ok (E.Between low a z.0, z.1)) (number_reads high p.1 (behind (next (next (next at))) (exp_tree a)))
  exp_reads (E.Eq a b) is = let p = and_parts (is_exp a) (is_exp b) is in two_reads S.EqTwo refl (exp_tree a) (exp_tree b) a b (exp_reads a p.0) (exp_reads b p.1)
  exp_reads (E.And a b) is = let p = and_parts (is_exp a) (is_exp b) is in two_reads S.AndTwo refl (exp_tree a) (exp_tree b) a b (exp_reads a p.0) (exp_reads b p.1)
  exp_reads (E.Or a b) is = let p = and_parts (is_exp a) (is_exp b) is in two_reads S.OrTwo refl (exp_tree a) (exp_tree b) a b (exp_reads a p.0) (exp_reads b p.1)
  exp_reads (E.Imp a b) is = let p = and_parts (is_exp a) (is_exp b) is in two_reads S.ImpTwo refl (exp_tree a) (exp_tree b) a b (exp_reads a p.0) (exp_reads b p.1)
  exp_reads (E.Not a) is = unary_reads S.NotOne refl (exp_tree a) a (exp_reads a is)
  exp_reads (E.If c a b) is = λ at.
      let q = and_parts (is_exp c) (is_exp a && is_exp b) is in
      let p = and_parts (is_exp a) (is_exp b) q.1 in
      let h = exp_reads c q.0 in
      let k = exp_reads a p.0 in
      let l = exp_reads b p.1 in
      row_reads R.IfRow refl (more (exp_tree c) (more (exp_tree a) (more (exp_tree b) no_trees))) at
      ∙ ap (λ r. r >>= λ x. exp_at x.1 (exp_tree a) >>= λ y. exp_at y.1 (exp_tree b) >>= λ z. Ok (E.If x.0 y.0 z.0, z.1)) (h (next (next at)))
      ∙ ap (λ r. r >>= λ y. exp_at y.1 (exp_tree b) >>= λ z. Ok (E.If c y.0 z.0, z.1)) (k (behind (next (next at)) (exp_tree c)))
      ∙ ap (λ r. r >>= λ z. Ok (E.If c a z.0, z.1)) (l (behind (behind (next (next at)) (exp_tree c)) (exp_tree a)))
  exp_reads (E.Padd ty p n) is = λ at.
      let q = and_parts (is_type ty) (is_exp p && is_exp n) is in
      let s = and_parts (is_exp p) (is_exp n) q.1 in
      let k = exp_reads p s.0 in
      let l = exp_reads n s.1 in
      row_reads R.PaddRow refl (more (type_tree ty) (more (exp_tree p) (more (exp_tree n) no_trees))) at
      ∙ ap (λ r. r >>= λ x. exp_at x.1 (exp_tree p) >>= λ y. exp_at y.1 (exp_tree n) >>= λ z. Ok (E.Padd x.0 y.0 z.0, z.1)) (type_reads ty q.0 (next (next at)))
      ∙ ap (λ r. r >>= λ y. exp_at y.1 (exp_tree n) >>= λ z. Ok (E.Padd ty y.0 z.0, z.1)) (k (behind (next (next at)) (type_tree ty)))
      ∙ ap (λ r. r >>= λ z. Ok (E.Padd ty p z.0, z.1)) (l (behind (behind (next (next at)) (type_tree ty)) (exp_tree p)))
  exp_reads (E.At ty p path) is =
      let q = and_parts (is_type ty) (is_exp p && is_path path) is in
      let s = and_parts (is_exp p) (is_path path) q.1 in
      place_reads S.AtPlace ty (exp_tree p) p (step_trees path) path q.0 (exp_reads p s.0) (path_reads path s.1)
  exp_reads (E.Load ty p path) is =
      let q = and_parts (is_type ty) (is_exp p && is_path path) is in
      let s = and_parts (is_exp p) (is_path path) q.1 in
      place_reads S.LoadPlace ty (exp_tree p) p (step_trees path) path q.0 (exp_reads p s.0) (path_reads path s.1)
  exp_reads (E.Read ty p path) is =
      let q = and_parts (is_type ty) (is_exp p && is_path path) is in
      let s = and_parts (is_exp p) (is_path path) q.1 in
      place_reads S.ReadPlace ty (exp_tree p) p (step_trees path) path q.0 (exp_reads p s.0) (path_reads path s.1)
  exp_reads (E.Tagged ty p) is = let q = and_parts (is_type ty) (is_exp p) is in root_reads S.TaggedRoot ty (exp_tree p) p q.0 (exp_reads p q.1)
  exp_reads (E.PtrOk ty p) is = let q = and_parts (is_type ty) (is_exp p) is in root_reads S.PtrOkRoot ty (exp_tree p) p q.0 (exp_reads p q.1)
  exp_reads (E.Global x path) is = λ at.
      let q = and_parts (is_name x) (is_path path) is in
      let k = path_reads path q.1 in
      row_reads R.GlobalRow refl (more (Atom x) (step_trees path)) at
      ∙ ap (λ r. r >>= λ y. steps_at y.1 (step_trees path) >>= λ z. Ok (E.Global y.0 z.0, z.1)) (name_reads x q.0 (next (next at)))
      ∙ ap (λ r. r >>= λ z. Ok (E.Global x z.0, z.1)) (k (next (next (next at))))
  exp_reads (E.Sel e E.Here) is = absurd (let q = and_parts (is_exp e) (is_one_step E.Here && is_path E.Here) is in cc)
  exp_reads (E.Sel e (E.IntoField k E.Here)) is =
      let q = and_parts (is_exp e) (nat_lt k (2 ^ 32) && true) is in
      let s = and_parts (nat_lt k (2 ^ 32)) true q.1 in
      sel_reads (exp_tree e) (Node (more (Atom field_word) (more (Atom (decimal k)) no_trees))) e (E.IntoField k) (exp_reads e q.0) (field_reads k s.0)
  exp_reads (E.Sel e (E.IntoField k (E.IntoField j path))) is = absurd (let q = and_parts (is_exp e) false is in cc)
  exp_reads (E.Sel e (E.IntoField k (E.IntoElement i path))) is = absurd (let q = and_parts (is_exp e) false is in cc)
  exp_reads (E.Sel e (E.IntoElement i E.Here)) is =
      let q = and_parts (is_exp e) (is_exp i && true) is in
      let s = and_parts (is_exp i) true q.1 in
      sel_reads (exp_tree e) (Node (more (Atom element_word) (more (exp_tree i) no_trees))) e (E.IntoElement i) (exp_reads e q.0) (element_reads (exp_tree i) i (exp_reads i s.0))
  exp_reads (E.Sel e (E.IntoElement i (E.IntoField j path))) is = absurd (let q = and_parts (is_exp e) false is in cc)
  exp_reads (E.Sel e (E.IntoElement i (E.IntoElement j path))) is = absurd (let q = and_parts (is_exp e) false is in cc)
  exp_reads (E.Upd e path v) is = λ at.
      let q = and_parts (is_exp e) (is_path path && is_exp v) is in
      let s = and_parts (is_path path) (is_exp v) q.1 in
      let h = exp_reads e q.0 in
      let k = path_reads path s.0 in
      let l = exp_reads v s.1 in
      row_reads R.UpdRow refl (more (exp_tree e) (more (Node (step_trees path)) (more (exp_tree v) no_trees))) at
      ∙ ap (λ r. r >>= λ x. path_at x.1 (Node (step_trees path)) >>= λ y. exp_at y.1 (exp_tree v) >>= λ z. Ok (E.Upd x.0 y.0 z.0, z.1)) (h (next (next at)))
      ∙ ap (λ r. r >>= λ y. exp_at y.1 (exp_tree v) >>= λ z. Ok (E.Upd e y.0 z.0, z.1)) (k (next (behind (next (next at)) (exp_tree e))))
      ∙ ap (λ r. r >>= λ z. Ok (E.Upd e path z.0, z.1)) (l (behind (behind (next (next at)) (exp_tree e)) (Node (step_trees path))))

  pub path_reads : (path : E.Path) → is_path path ≡ true → AreReadAs steps_at (step_trees path) path
  path_reads E.Here is = λ at. refl
  path_reads (E.IntoField k path) is =
      let p = and_parts (nat_lt k (2 ^ 32)) (is_path path) is in
      step_more (Node (more (Atom field_word) (more (Atom (decimal k)) no_trees))) (E.IntoField k) (step_trees path) path (field_reads k p.0) (path_reads path p.1)
  path_reads (E.IntoElement e path) is =
      let p = and_parts (is_exp e) (is_path path) is in
      step_more (Node (more (Atom element_word) (more (exp_tree e) no_trees))) (E.IntoElement e) (step_trees path) path (element_reads (exp_tree e) e (exp_reads e p.0)) (path_reads path p.1)

-- what comes before the other steps
abbrev pub StepText : Tree → (E.Path → E.Path) → Type 0
StepText t step =
    ((path : E.Path) → is_path path ≡ true → is_path (step path) ≡ true) × ((path : E.Path) → more t (step_trees path) ≡ step_trees (step path)) × (is_one_step (step E.Here) ≡ true)

abbrev pub IsPathText : Trees → E.Path → Type 0
IsPathText ts path = (ts ≡ step_trees path) × (is_path path ≡ true)

path_moved : {ts : Trees} (p q : E.Path) → p ≡ q → ts ≡ step_trees p → is_path p ≡ true → IsPathText ts q
path_moved p q same is fine = (is ∙ ap step_trees same, ap is_path (sym same) ∙ fine)

step_moved : (t : Tree) (step other : E.Path → E.Path) → step ≡ other → StepText t step → StepText t other
step_moved t step other same h = subst (StepText t) same h

field_text : (t : Tree) (k : ℕ) → t ≡ Node (more (Atom field_word) (more (Atom (decimal k)) no_trees)) → k < 2 ^ 32 → StepText t (E.IntoField k)
field_text t k e lt = (λ path is. and_from (nat_lt k (2 ^ 32)) (is_path path) (lt-ltb k (2 ^ 32) lt) is, λ path. ap (λ s. more s (step_trees path)) e, refl)

element_text : (t : Tree) (i : E.Exp) → t ≡ Node (more (Atom element_word) (more (exp_tree i) no_trees)) → is_exp i ≡ true → StepText t (E.IntoElement i)
element_text t i e fine = (λ path is. and_from (is_exp i) (is_path path) fine is, λ path. ap (λ s. more s (step_trees path)) e, refl)

-- the word of a row's list
row_word : (word : Name) (o : Option Head) (r : R.Row) → looked_up head_word heads word ≡ o → row_in o ≡ Some r → (word ≡ head_word (row_head r)) × (is_row r ≡ true)
row_word word None r found e = absurd cc
row_word word (Some h) r found e =
    let same : R.row_of h ≡ r = cc in
    (sym (looked_up_is head_word heads word h found) ∙ ap head_word (sym (head_of_row h) ∙ ap row_head same), ap is_row (sym same) ∙ head_has_row h)

one_text : (one : S.One) → is_bare one ≡ true → (a : E.Exp) → exp_tree (S.whole_one one a) ≡ headed (R.one_head one) (more (exp_tree a) no_trees)
one_text (S.CastOne op width) bare a = absurd (false≢true bare)
one_text (S.ToWordOne width) bare a = absurd (false≢true bare)
one_text _ _ _ = refl

one_fine : (one : S.One) → is_bare one ≡ true → (a : E.Exp) → is_exp a ≡ true → is_exp (S.whole_one one a) ≡ true
one_fine (S.UnaryOne op) bare a is = is
one_fine S.ToNatOne bare a is = is
one_fine S.ToIntOne bare a is = is
one_fine S.NegateOne bare a is = is
one_fine S.NotOne bare a is = is
one_fine _ bare _ _ = absurd (false≢true bare)

sized_text : (sized : R.Sized) (width : ℕ) (a : E.Exp) → exp_tree (S.whole_one (R.sized_one sized width) a) ≡ headed (sized_head sized) (more (Atom (decimal width)) (more (exp_tree a) no_trees))
sized_text (R.CastSized op) width a = refl
sized_text R.ToWordSized width a = refl

sized_fine : (sized : R.Sized) (width : ℕ) (a : E.Exp) → is_width width ≡ true → is_exp a ≡ true → is_exp (S.whole_one (R.sized_one sized width) a) ≡ true
sized_fine (R.CastSized op) width a w is = and_from (is_width width) (is_exp a) w is
sized_fine R.ToWordSized width a w is = and_from (is_width width) (is_exp a) w is

two_text : (two : S.Two) (a b : E.Exp) → exp_tree (S.whole_two two a b) ≡ headed (R.two_head two) (more (exp_tree a) (more (exp_tree b) no_trees))
two_text (S.BinaryTwo op) a b = refl
two_text _ _ _ = refl

two_fine : (two : S.Two) → is_pair two ≡ true → (a b : E.Exp) → is_exp a ≡ true → is_exp b ≡ true → is_exp (S.whole_two two a b) ≡ true
two_fine (S.BinaryTwo op) pair a b f g = and_from (is_exp a) (is_exp b) f g
two_fine (S.ShiftTwo op) pair a b f g = and_from (is_exp a) (is_exp b) f g
two_fine (S.CompareTwo op) pair a b f g = and_from (is_exp a) (is_exp b) f g
two_fine (S.ArithTwo op) pair a b f g = and_from (is_of_two op) (is_exp a && is_exp b) pair (and_from (is_exp a) (is_exp b) f g)
two_fine S.LtTwo pair a b f g = and_from (is_exp a) (is_exp b) f g
two_fine S.LeTwo pair a b f g = and_from (is_exp a) (is_exp b) f g
two_fine S.EqTwo pair a b f g = and_from (is_exp a) (is_exp b) f g
two_fine S.AndTwo pair a b f g = and_from (is_exp a) (is_exp b) f g
two_fine S.OrTwo pair a b f g = and_from (is_exp a) (is_exp b) f g
two_fine S.ImpTwo pair a b f g = and_from (is_exp a) (is_exp b) f g

root_text : (root : S.RootTest) (ty : CType) (p : E.Exp) → exp_tree (S.whole_root root ty p) ≡ headed (R.root_head root) (more (type_tree ty) (more (exp_tree p) no_trees))
root_text S.TaggedRoot ty p = refl
root_text S.PtrOkRoot ty p = refl

root_fine : (root : S.RootTest) (ty : CType) (p : E.Exp) → is_type ty ≡ true → is_exp p ≡ true → is_exp (S.whole_root root ty p) ≡ true
root_fine S.TaggedRoot ty p f g = and_from (is_type ty) (is_exp p) f g
root_fine S.PtrOkRoot ty p f g = and_from (is_type ty) (is_exp p) f g

place_text : (place : S.PlaceHead) (ty : CType) (p : E.Exp) (path : E.Path) → exp_tree (S.whole_place place ty p path) ≡ headed (R.place_head place) (more (type_tree ty) (more (exp_tree p) (step_trees path)))
place_text S.AtPlace ty p path = refl
place_text _ _ _ _ = refl

place_fine : (place : S.PlaceHead) (ty : CType) (p : E.Exp) (path : E.Path) → is_type ty ≡ true → is_exp p ≡ true → is_path path ≡ true → is_exp (S.whole_place place ty p path) ≡ true
place_fine S.AtPlace ty p path f g h = and_from (is_type ty) (is_exp p && is_path path) f (and_from (is_exp p) (is_path path) g h)
place_fine S.LoadPlace ty p path f g h = and_from (is_type ty) (is_exp p && is_path path) f (and_from (is_exp p) (is_path path) g h)
place_fine S.ReadPlace ty p path f g h = and_from (is_type ty) (is_exp p && is_path path) f (and_from (is_exp p) (is_path path) g h)

three : (h : Name) {a b c d e f : Tree} → a ≡ d → b ≡ e → c ≡ f → Node (more (Atom h) (more a (more b (more c no_trees)))) ≡ Node (more (Atom h) (more d (more e (more f no_trees))))
three h {b = b} {c = c} {d = d} {e = e} p q r =
    ap (λ t. Node (more (Atom h) (more t (more b (more c no_trees))))) p ∙ ap (λ t. Node (more (Atom h) (more d (more t (more c no_trees))))) q ∙ ap (λ t. Node (more (Atom h) (more d (more e (more t no_trees))))) r

two_parts : (h : Name) {a b d e : Tree} → a ≡ d → b ≡ e → Node (more (Atom h) (more a (more b no_trees))) ≡ Node (more (Atom h) (more d (more e no_trees)))
two_parts h {b = b} {d = d} p q = ap (λ t. Node (more (Atom h) (more t (more b no_trees)))) p ∙ ap (λ t. Node (more (Atom h) (more d (more t no_trees)))) q

place_parts : (h : Name) {a b d e : Tree} {ss rr : Trees} → a ≡ d → b ≡ e → ss ≡ rr → Node (more (Atom h) (more a (more b ss))) ≡ Node (more (Atom h) (more d (more e rr)))
place_parts h {b = b} {d = d} {e = e} {ss = ss} p q r =
    ap (λ t. Node (more (Atom h) (more t (more b ss)))) p ∙ ap (λ t. Node (more (Atom h) (more d (more t ss)))) q ∙ ap (λ t. Node (more (Atom h) (more d (more e t)))) r

first_parts : (h : Name) {a d : Tree} {ss rr : Trees} → a ≡ d → ss ≡ rr → Node (more (Atom h) (more a ss)) ≡ Node (more (Atom h) (more d rr))
first_parts h {d = d} {ss = ss} p r = ap (λ t. Node (more (Atom h) (more t ss))) p ∙ ap (λ t. Node (more (Atom h) (more d t))) r

headed_as : (word h : Name) (ts : Trees) → word ≡ h → Node (more (Atom word) ts) ≡ Node (more (Atom h) ts)
headed_as word h ts e = ap (λ w. Node (more (Atom w) ts)) e

step_found : (word : Name) (o : StepHead) (t u : Bool) → same_name word field_word ≡ t → same_name word element_word ≡ u → (if t then Some FieldStep else if u then Some ElementStep else None) ≡ Some o →
    ((o ≡ FieldStep) → word ≡ field_word) × ((o ≡ ElementStep) → word ≡ element_word)
step_found word o true u e f g = (λ _. name_is word field_word e, λ h. let same : FieldStep ≡ o = cc in absurd cc)
step_found word o false true e f g = (λ h. let same : ElementStep ≡ o = cc in absurd cc, λ _. name_is word element_word f)
step_found word o false false e f g = absurd cc

field_found : (word : Name) → step_head word ≡ Some FieldStep → word ≡ field_word
field_found word e = (step_found word FieldStep (same_name word field_word) (same_name word element_word) refl refl e).0 refl

element_found : (word : Name) → step_head word ≡ Some ElementStep → word ≡ element_word
element_found word e = (step_found word ElementStep (same_name word field_word) (same_name word element_word) refl refl e).1 refl

mutual
  pub exp_spells : (t : Tree) (at : ℕ) (e : E.Exp) (n : ℕ) → exp_at at t ≡ Ok (e, n) → IsExpText t e
  exp_spells (Atom word) at e n read = leaf_spells word at e n read
  exp_spells (Node (more (Atom word) ts)) at e n read =
      built_spells word (row_in (looked_up head_word heads word)) ts at (next (next at)) e n (λ r found. row_word word (looked_up head_word heads word) r refl found) read
  exp_spells _ at e n read = absurd cc

  built_spells : (word : Name) (o : Option R.Row) (ts : Trees) (at inner : ℕ) (e : E.Exp) (n : ℕ) → ((r : R.Row) → o ≡ Some r → (word ≡ head_word (row_head r)) × (is_row r ≡ true)) → built_exp_at at inner o ts ≡ Ok (e, n) →
      IsExpText (Node (more (Atom word) ts)) e
  built_spells word (Some R.WordRow) (more t (more u no_trees)) at inner e n found read =
      let w = found R.WordRow refl in
      let (x, read0, others0) = bind_ok (width_at inner t) (λ x. natural_at (2 ^ x.0) x.1 u >>= λ y. Ok (E.WordLit (record { width = x.0; bits = y.0 }), y.1)) (e, n) read in
      let (y, read1, last) = bind_ok (natural_at (2 ^ x.0) x.1 u) (λ y. Ok (E.WordLit (record { width = x.0; bits = y.0 }), y.1)) (e, n) others0 in
      let h = width_spells t inner x.0 x.1 read0 in
      let k = natural_spells (2 ^ x.0) u x.1 y.0 y.1 read1 in
      exp_moved (E.WordLit (record { width = x.0; bits = y.0 })) e (value_ok (E.WordLit (record { width = x.0; bits = y.0 })) y.1 e n last)
      (headed_as word (head_word H.Word) (more t (more u no_trees)) w.0 ∙ two_parts (head_word H.Word) h.0 k.0)
      (and_from (is_width x.0) (nat_lt y.0 (2 ^ x.0)) h.1 (lt-ltb y.0 (2 ^ x.0) k.1))
  built_spells word (Some (R.UnaryRow one)) (more t no_trees) at inner e n found read =
      let w = found (R.UnaryRow one) refl in
      let (x, read0, last) = bind_ok (exp_at inner t) (λ x. Ok (S.whole_one one x.0, x.1)) (e, n) read in
      let h = exp_spells t inner x.0 x.1 read0 in
      exp_moved (S.whole_one one x.0) e (value_ok (S.whole_one one x.0) x.1 e n last)
      (headed_as word (head_word (R.one_head one)) (more t no_trees) w.0 ∙ first_parts (head_word (R.one_head one)) h.0 refl ∙ sym (one_text one w.1 x.0))
      (one_fine one w.1 x.0 h.1)
  built_spells word (Some (R.SizedRow sized)) (more t (more u no_trees)) at inner e n found read =
      let w = found (R.SizedRow sized) refl in
      let (x, read0, others0) = bind_ok (width_at inner t) (λ x. exp_at x.1 u >>= λ y. Ok (S.whole_one (R.sized_one sized x.0) y.0, y.1)) (e, n) read in
      let (y, read1, last) = bind_ok (exp_at x.1 u) (λ y. Ok (S.whole_one (R.sized_one sized x.0) y.0, y.1)) (e, n) others0 in
      let h = width_spells t inner x.0 x.1 read0 in
      let k = exp_spells u x.1 y.0 y.1 read1 in
      exp_moved (S.whole_one (R.sized_one sized x.0) y.0) e (value_ok (S.whole_one (R.sized_one sized x.0) y.0) y.1 e n last)
      (headed_as word (head_word (sized_head sized)) (more t (more u no_trees)) w.0 ∙ two_parts (head_word (sized_head sized)) h.0 k.0 ∙ sym (sized_text sized x.0 y.0))
      (sized_fine sized x.0 y.0 h.1 k.1)
  built_spells word (Some (R.TwoRow two)) (more t (more u no_trees)) at inner e n found read =
      let w = found (R.TwoRow two) refl in
      let (x, read0, others0) = bind_ok (exp_at inner t) (λ x. exp_at x.1 u >>= λ y. Ok (S.whole_two two x.0 y.0, y.1)) (e, n) read in
      let (y, read1, last) = bind_ok (exp_at x.1 u) (λ y. Ok (S.whole_two two x.0 y.0, y.1)) (e, n) others0 in
      let h = exp_spells t inner x.0 x.1 read0 in
      let k = exp_spells u x.1 y.0 y.1 read1 in
      exp_moved (S.whole_two two x.0 y.0) e (value_ok (S.whole_two two x.0 y.0) y.1 e n last)
      (headed_as word (head_word (R.two_head two)) (more t (more u no_trees)) w.0 ∙ two_parts (head_word (R.two_head two)) h.0 k.0 ∙ sym (two_text two x.0 y.0))
      (two_fine two w.1 x.0 y.0 h.1 k.1)
  built_spells word (Some R.BetweenRow) (more t (more u (more v no_trees))) at inner e n found read =
      let w = found R.BetweenRow refl in
      let (x, read0, others0) = bind_ok (number_at inner t) (λ x. exp_at x.1 u >>= λ y. number_at y.1 v >>= λ z. Ok (E.Between x.0 y.0 z.0, z.1)) (e, n) read in
      let (y, read1, others1) = bind_ok (exp_at x.1 u) (λ y. number_at y.1 v >>= λ z. Ok (E.Between x.0 y.0 z.0, z.1)) (e, n) others0 in
      let (z, read2, last) = bind_ok (number_at y.1 v) (λ z. Ok (E.Between x.0 y.0 z.0, z.1)) (e, n) others1 in
      let h = number_spells t inner x.0 x.1 read0 in
      let k = exp_spells u x.1 y.0 y.1 read1 in
      let l = number_spells v y.1 z.0 z.1 read2 in
      exp_moved (E.Between x.0 y.0 z.0) e (value_ok (E.Between x.0 y.0 z.0) z.1 e n last)
      (headed_as word (head_word H.Between) (more t (more u (more v no_trees))) w.0 ∙ three (head_word H.Between) h.0 k.0 l.0)
      (and_from (is_number x.0) (is_exp y.0 && is_number z.0) h.1 (and_from (is_exp y.0) (is_number z.0) k.1 l.1))
  built_spells word (Some R.IfRow) (more t (more u (more v no_trees))) at inner e n found read =
      let w = found R.IfRow refl in
      let (x, read0, others0) = bind_ok (exp_at inner t) (λ x. exp_at x.1 u >>= λ y. exp_at y.1 v >>= λ z. Ok (E.If x.0 y.0 z.0, z.1)) (e, n) read in
      let (y, read1, others1) = bind_ok (exp_at x.1 u) (λ y. exp_at y.1 v >>= λ z. Ok (E.If x.0 y.0 z.0, z.1)) (e, n) others0 in
      let (z, read2, last) = bind_ok (exp_at y.1 v) (λ z. Ok (E.If x.0 y.0 z.0, z.1)) (e, n) others1 in
      let h = exp_spells t inner x.0 x.1 read0 in
      let k = exp_spells u x.1 y.0 y.1 read1 in
      let l = exp_spells v y.1 z.0 z.1 read2 in
      exp_moved (E.If x.0 y.0 z.0) e (value_ok (E.If x.0 y.0 z.0) z.1 e n last)
      (headed_as word (head_word H.If) (more t (more u (more v no_trees))) w.0 ∙ three (head_word H.If) h.0 k.0 l.0)
      (and_from (is_exp x.0) (is_exp y.0 && is_exp z.0) h.1 (and_from (is_exp y.0) (is_exp z.0) k.1 l.1))
  built_spells word (Some R.PaddRow) (more t (more u (more v no_trees))) at inner e n found read =
      let w = found R.PaddRow refl in
      let (x, read0, others0) = bind_ok (type_at inner t) (λ x. exp_at x.1 u >>= λ y. exp_at y.1 v >>= λ z. Ok (E.Padd x.0 y.0 z.0, z.1)) (e, n) read in
      let (y, read1, others1) = bind_ok (exp_at x.1 u) (λ y. exp_at y.1 v >>= λ z. Ok (E.Padd x.0 y.0 z.0, z.1)) (e, n) others0 in
      let (z, read2, last) = bind_ok (exp_at y.1 v) (λ z. Ok (E.Padd x.0 y.0 z.0, z.1)) (e, n) others1 in
      let h = type_spells t inner x.0 x.1 read0 in
      let k = exp_spells u x.1 y.0 y.1 read1 in
      let l = exp_spells v y.1 z.0 z.1 read2 in
      exp_moved (E.Padd x.0 y.0 z.0) e (value_ok (E.Padd x.0 y.0 z.0) z.1 e n last)
      (headed_as word (head_word H.Padd) (more t (more u (more v no_trees))) w.0 ∙ three (head_word H.Padd) h.0 k.0 l.0)
      (and_from (is_type x.0) (is_exp y.0 && is_exp z.0) h.1 (and_from (is_exp y.0) (is_exp z.0) k.1 l.1))
  built_spells word (Some (R.RootRow root)) (more t (more u no_trees)) at inner e n found read =
      let w = found (R.RootRow root) refl in
      let (x, read0, others0) = bind_ok (type_at inner t) (λ x. exp_at x.1 u >>= λ y. Ok (S.whole_root root x.0 y.0, y.1)) (e, n) read in
      let (y, read1, last) = bind_ok (exp_at x.1 u) (λ y. Ok (S.whole_root root x.0 y.0, y.1)) (e, n) others0 in
      let h = type_spells t inner x.0 x.1 read0 in
      let k = exp_spells u x.1 y.0 y.1 read1 in
      exp_moved (S.whole_root root x.0 y.0) e (value_ok (S.whole_root root x.0 y.0) y.1 e n last)
      (headed_as word (head_word (R.root_head root)) (more t (more u no_trees)) w.0 ∙ two_parts (head_word (R.root_head root)) h.0 k.0 ∙ sym (root_text root x.0 y.0))
      (root_fine root x.0 y.0 h.1 k.1)
  built_spells word (Some (R.PlaceRow place)) (more t (more u steps)) at inner e n found read =
      let w = found (R.PlaceRow place) refl in
      let (x, read0, others0) = bind_ok (type_at inner t) (λ x. exp_at x.1 u >>= λ y. steps_at y.1 steps >>= λ z. Ok (S.whole_place place x.0 y.0 z.0, z.1)) (e, n) read in
      let (y, read1, others1) = bind_ok (exp_at x.1 u) (λ y. steps_at y.1 steps >>= λ z. Ok (S.whole_place place x.0 y.0 z.0, z.1)) (e, n) others0 in
      let (z, read2, last) = bind_ok (steps_at y.1 steps) (λ z. Ok (S.whole_place place x.0 y.0 z.0, z.1)) (e, n) others1 in
      let h = type_spells t inner x.0 x.1 read0 in
      let k = exp_spells u x.1 y.0 y.1 read1 in
      let l = steps_spells steps y.1 z.0 z.1 read2 in
      exp_moved (S.whole_place place x.0 y.0 z.0) e (value_ok (S.whole_place place x.0 y.0 z.0) z.1 e n last)
      (headed_as word (head_word (R.place_head place)) (more t (more u steps)) w.0 ∙ place_parts (head_word (R.place_head place)) h.0 k.0 l.0 ∙ sym (place_text place x.0 y.0 z.0))
      (place_fine place x.0 y.0 z.0 h.1 k.1 l.1)
  built_spells word (Some R.GlobalRow) (more t steps) at inner e n found read =
      let w = found R.GlobalRow refl in
      let (x, read0, others0) = bind_ok (name_at inner t) (λ x. steps_at x.1 steps >>= λ y. Ok (E.Global x.0 y.0, y.1)) (e, n) read in
      let (y, read1, last) = bind_ok (steps_at x.1 steps) (λ y. Ok (E.Global x.0 y.0, y.1)) (e, n) others0 in
      let h = name_spells t inner x.0 x.1 read0 in
      let k = steps_spells steps x.1 y.0 y.1 read1 in
      exp_moved (E.Global x.0 y.0) e (value_ok (E.Global x.0 y.0) y.1 e n last)
      (headed_as word (head_word H.Global) (more t steps) w.0 ∙ first_parts (head_word H.Global) h.0 k.0)
      (and_from (is_name x.0) (is_path y.0) h.1 k.1)
  built_spells word (Some R.SelRow) (more t (more u no_trees)) at inner e n found read =
      let w = found R.SelRow refl in
      let (x, read0, others0) = bind_ok (exp_at inner t) (λ x. step_at x.1 u >>= λ y. Ok (E.Sel x.0 (y.0 E.Here), y.1)) (e, n) read in
      let (y, read1, last) = bind_ok (step_at x.1 u) (λ y. Ok (E.Sel x.0 (y.0 E.Here), y.1)) (e, n) others0 in
      let h = exp_spells t inner x.0 x.1 read0 in
      let k = step_spells u x.1 y.0 y.1 read1 in
      exp_moved (E.Sel x.0 (y.0 E.Here)) e (value_ok (E.Sel x.0 (y.0 E.Here)) y.1 e n last)
      (headed_as word (head_word H.Sel) (more t (more u no_trees)) w.0 ∙ first_parts (head_word H.Sel) h.0 (k.1 E.Here))
      (and_from (is_exp x.0) (is_one_step (y.0 E.Here) && is_path (y.0 E.Here)) h.1 (and_from (is_one_step (y.0 E.Here)) (is_path (y.0 E.Here)) k.2 (k.0 E.Here refl)))
  built_spells word (Some R.UpdRow) (more t (more u (more v no_trees))) at inner e n found read =
      let w = found R.UpdRow refl in
      let (x, read0, others0) = bind_ok (exp_at inner t) (λ x. path_at x.1 u >>= λ y. exp_at y.1 v >>= λ z. Ok (E.Upd x.0 y.0 z.0, z.1)) (e, n) read in
      let (y, read1, others1) = bind_ok (path_at x.1 u) (λ y. exp_at y.1 v >>= λ z. Ok (E.Upd x.0 y.0 z.0, z.1)) (e, n) others0 in
      let (z, read2, last) = bind_ok (exp_at y.1 v) (λ z. Ok (E.Upd x.0 y.0 z.0, z.1)) (e, n) others1 in
      let h = exp_spells t inner x.0 x.1 read0 in
      let k = path_spells u x.1 y.0 y.1 read1 in
      let l = exp_spells v y.1 z.0 z.1 read2 in
      exp_moved (E.Upd x.0 y.0 z.0) e (value_ok (E.Upd x.0 y.0 z.0) z.1 e n last)
      (headed_as word (head_word H.Upd) (more t (more u (more v no_trees))) w.0 ∙ three (head_word H.Upd) h.0 k.0 l.0)
      (and_from (is_exp x.0) (is_path y.0 && is_exp z.0) h.1 (and_from (is_path y.0) (is_exp z.0) k.1 l.1))
  built_spells word None (more t (more u no_trees)) at inner e n found read = absurd cc
  built_spells word _ _ at inner e n found read = absurd cc

  pub path_spells : (t : Tree) (at : ℕ) (path : E.Path) (n : ℕ) → path_at at t ≡ Ok (path, n) → (t ≡ Node (step_trees path)) × (is_path path ≡ true)
  path_spells (Atom word) at path n read = absurd cc
  path_spells (Node ts) at path n read = let h = steps_spells ts (next at) path n read in (ap Node h.0, h.1)

  pub steps_spells : (ts : Trees) (at : ℕ) (path : E.Path) (n : ℕ) → steps_at at ts ≡ Ok (path, n) → IsPathText ts path
  steps_spells no_trees at path n read = path_moved E.Here path (value_ok E.Here at path n read) refl refl
  steps_spells (more s ss) at path n read =
      let (x, first, others) = bind_ok (step_at at s) (λ x. steps_at x.1 ss >>= λ y. Ok (x.0 y.0, y.1)) (path, n) read in
      let (y, second, last) = bind_ok (steps_at x.1 ss) (λ y. Ok (x.0 y.0, y.1)) (path, n) others in
      let h = step_spells s at x.0 x.1 first in
      let k = steps_spells ss x.1 y.0 y.1 second in
      path_moved (x.0 y.0) path (value_ok (x.0 y.0) y.1 path n last) (ap (λ us. more s us) k.0 ∙ h.1 y.0) (h.0 y.0 k.1)

  step_spells : (t : Tree) (at : ℕ) (step : E.Path → E.Path) (n : ℕ) → step_at at t ≡ Ok (step, n) → StepText t step
  step_spells (Node (more (Atom word) ts)) at step n read = built_step_spells word (step_head word) ts at (next (next at)) step n refl read
  step_spells _ at step n read = absurd cc

  built_step_spells : (word : Name) (o : Option StepHead) (ts : Trees) (at inner : ℕ) (step : E.Path → E.Path) (n : ℕ) → step_head word ≡ o → built_step_at at inner o ts ≡ Ok (step, n) → StepText (Node (more (Atom word) ts)) step
  built_step_spells word (Some FieldStep) (more u no_trees) at inner step n found read =
      let (x, first, last) = bind_ok (natural_at (2 ^ 32) inner u) (λ x. Ok (E.IntoField x.0, x.1)) (step, n) read in
      let h = natural_spells (2 ^ 32) u inner x.0 x.1 first in
      step_moved (Node (more (Atom word) (more u no_trees))) (E.IntoField x.0) step (value_ok (E.IntoField x.0) x.1 step n last)
      (field_text (Node (more (Atom word) (more u no_trees))) x.0 (headed_as word field_word (more u no_trees) (field_found word found) ∙ first_parts field_word h.0 refl) h.1)
  built_step_spells word (Some ElementStep) (more u no_trees) at inner step n found read =
      let (x, first, last) = bind_ok (exp_at inner u) (λ x. Ok (E.IntoElement x.0, x.1)) (step, n) read in
      let h = exp_spells u inner x.0 x.1 first in
      step_moved (Node (more (Atom word) (more u no_trees))) (E.IntoElement x.0) step (value_ok (E.IntoElement x.0) x.1 step n last)
      (element_text (Node (more (Atom word) (more u no_trees))) x.0 (headed_as word element_word (more u no_trees) (element_found word found) ∙ first_parts element_word h.0 refl) h.1)
  built_step_spells word None (more u no_trees) at inner step n found read = absurd cc
  built_step_spells word _ _ at inner step n found read = absurd cc
