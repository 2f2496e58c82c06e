-- A well-sorted expression is of a kind's sort exactly where the walk along first operands says so.
use Rattle.std.proofs.Common.{◌≡◌, ◌↔◌, ℕ, ◌^◌, nat_lt, Bool, true, false, ◌&&◌, not, Option, Some, None, refl, sym, ap, ◌∙◌, IsTrue}
use Rattle.std.proofs.lemmas.Bool.{eqb-true}
use Rattle.std.proofs.lemmas.Bool.Decides.{Decides-eqb}
use Rattle.c_values.specs.Types.{address_width}
use Rattle.c_values.specs.Layout.{Shape, Incomplete, Scalar as WordShape, Record, Row as Elements, shape_of, is_object}
use Rattle.expression_lang.specs.Expression as X
use Rattle.expression_lang.specs.Expression.{Exp, Path}
use Rattle.expression_lang.specs.Sort.{Sort, Of, WordSort, TruthSort, Kind, WordKind, NatKind, IntKind, BoolKind, Scope, sort_of, shape_along, sort_at, word_sort, number_sort, truth_sort, word_width, is_width, is_number, is_truth, is_word_of, is_unary, is_one_step, are_same, cast_fits, where_holds, of_word, of_shape, parts_shape}
use Rattle.expression_lang.proofs.Inversion.{where_inv, words_inv, word_inv, width_inv, shape_inv, type_inv, truth_inv, parts_inv}
use Rattle.rule_word.specs.Scopes.{sort_seen, view_for}
use Rattle.rule_word.specs.CodeFits.{IsSorted}
use Rattle.rule_word.specs.CodeSorts.{left_truth, left_kind, is_this}
use Rattle.rule_word.specs.LeftWidth.{left_width}
use Rattle.rule_word.proofs.LeftWidths.{left_width_is}

at_never : (r : Shape) (s : Sort) → sort_at r ≡ Some s → is_truth (Some s) ≡ false
at_never Incomplete s h = absurd cc
at_never (WordShape t n) s h = ap is_truth (sym h)
at_never (Record x n align fs) s h = ap is_truth (sym h)
at_never (Elements r n) s h = ap is_truth (sym h)

module _ (g : Scope) where
  held : (b : Bool) (o : Option Sort) (s : Sort) → where_holds b o ≡ Some s → is_truth (Some s) ≡ is_truth o
  held b o s q = ap is_truth (sym (where_inv b o s q).1)

  end_never : (path : Path) (r : Shape) (s : Sort) → of_shape (shape_along g path r) sort_at ≡ Some s → is_truth (Some s) ≡ false
  end_never path r s h = let i = shape_inv (shape_along g path r) sort_at s h in at_never i.0 s i.2

  root_never : (b : Bool) (path : Path) (r : Shape) (s : Sort) → where_holds b (of_shape (shape_along g path r) sort_at) ≡ Some s → is_truth (Some s) ≡ false
  root_never b path r s q = end_never path r s (where_inv b (of_shape (shape_along g path r) sort_at) s q).1

  pub left_truth_is : (e : Exp) (s : Sort) → sort_of g e ≡ Some s → is_truth (Some s) ≡ left_truth g e
  left_truth_is (X.Var x) s q = ap is_truth (sym q)
  left_truth_is (X.WordLit w) s q = held (is_width w.width && nat_lt w.bits (2 ^ w.width)) (word_sort w.width) s q
  left_truth_is (X.NumberLit n) s q = ap is_truth (sym q)
  left_truth_is (X.TruthLit b) s q = ap is_truth (sym q)
  left_truth_is (X.WordBinary op a b) s q = let i = words_inv (word_width (sort_of g a)) (word_width (sort_of g b)) word_sort s q in ap is_truth (sym i.3)
  left_truth_is (X.WordShift op a n) s q =
      let r = where_inv (is_number (sort_of g n)) (of_word (word_width (sort_of g a)) word_sort) s q in
      let i = word_inv (word_width (sort_of g a)) word_sort s r.1 in ap is_truth (sym i.2)
  left_truth_is (X.WordUnary op a) s q = let i = word_inv (word_width (sort_of g a)) word_sort s q in ap is_truth (sym i.2)
  left_truth_is (X.WordCompare test a b) s q =
      let i = words_inv (word_width (sort_of g a)) (word_width (sort_of g b)) (λ n. truth_sort) s q in ap is_truth (sym i.3)
  left_truth_is (X.Cast op m a) s q =
      let i = word_inv (word_width (sort_of g a)) (λ from. where_holds (is_width m && cast_fits op from m) (word_sort m)) s q in
      held (is_width m && cast_fits op i.0 m) (word_sort m) s i.2
  left_truth_is (X.ToNat a) s q = let i = word_inv (word_width (sort_of g a)) (λ n. number_sort) s q in ap is_truth (sym i.2)
  left_truth_is (X.ToInt a) s q = let i = word_inv (word_width (sort_of g a)) (λ n. number_sort) s q in ap is_truth (sym i.2)
  left_truth_is (X.ToWord m a) s q = held (is_width m && is_number (sort_of g a)) (word_sort m) s q
  left_truth_is (X.Arith op a b) s q = held (not (is_unary op) && is_number (sort_of g a) && is_number (sort_of g b)) number_sort s q
  left_truth_is (X.Negate a) s q = held (is_number (sort_of g a)) number_sort s q
  left_truth_is (X.Lt a b) s q = held (is_number (sort_of g a) && is_number (sort_of g b)) truth_sort s q
  left_truth_is (X.Le a b) s q = held (is_number (sort_of g a) && is_number (sort_of g b)) truth_sort s q
  left_truth_is (X.Between low a high) s q = held (is_number (sort_of g a)) truth_sort s q
  left_truth_is (X.Eq a b) s q = held (are_same (sort_of g a) (sort_of g b)) truth_sort s q
  left_truth_is (X.And a b) s q = held (is_truth (sort_of g a) && is_truth (sort_of g b)) truth_sort s q
  left_truth_is (X.Or a b) s q = held (is_truth (sort_of g a) && is_truth (sort_of g b)) truth_sort s q
  left_truth_is (X.Imp a b) s q = held (is_truth (sort_of g a) && is_truth (sort_of g b)) truth_sort s q
  left_truth_is (X.Not a) s q = held (is_truth (sort_of g a)) truth_sort s q
  left_truth_is (X.If c a b) s q = left_truth_is a s (where_inv (is_truth (sort_of g c) && are_same (sort_of g a) (sort_of g b)) (sort_of g a) s q).1
  left_truth_is (X.Padd t p n) s q =
      held (is_object g.layout t && is_word_of (address_width g.layout.target) (sort_of g p) && is_number (sort_of g n)) (word_sort (address_width g.layout.target)) s q
  left_truth_is (X.At t p path) s q =
      let r = where_inv (is_object g.layout t && is_word_of (address_width g.layout.target) (sort_of g p)) (of_shape (shape_along g path (shape_of g.layout t)) (λ r. word_sort (address_width g.layout.target))) s q in
      let i = shape_inv (shape_along g path (shape_of g.layout t)) (λ r. word_sort (address_width g.layout.target)) s r.1 in ap is_truth (sym i.2)
  left_truth_is (X.Load t p path) s q = root_never (is_object g.layout t && is_word_of (address_width g.layout.target) (sort_of g p)) path (shape_of g.layout t) s q
  left_truth_is (X.Read t p path) s q = root_never (is_object g.layout t && is_word_of (address_width g.layout.target) (sort_of g p)) path (shape_of g.layout t) s q
  left_truth_is (X.Tagged t p) s q = held (is_object g.layout t && is_word_of (address_width g.layout.target) (sort_of g p)) truth_sort s q
  left_truth_is (X.PtrOk t p) s q = held (is_object g.layout t && is_word_of (address_width g.layout.target) (sort_of g p)) truth_sort s q
  left_truth_is (X.Global x path) s q =
      let a = type_inv (g.globals x) (λ t. where_holds (is_object g.layout t) (of_shape (shape_along g path (shape_of g.layout t)) sort_at)) s q in
      root_never (is_object g.layout a.0) path (shape_of g.layout a.0) s a.2
  left_truth_is (X.Sel e path) s q =
      let r = where_inv (is_one_step path) (of_shape (parts_shape g.layout (sort_of g e)) (λ p. of_shape (shape_along g path p) sort_at)) s q in
      let a = shape_inv (parts_shape g.layout (sort_of g e)) (λ p. of_shape (shape_along g path p) sort_at) s r.1 in end_never path a.0 s a.2
  left_truth_is (X.Upd e path x) s q =
      let a = shape_inv (parts_shape g.layout (sort_of g e)) (λ r. of_shape (shape_along g path r) (λ p. where_holds (are_same (sort_at p) (sort_of g x)) (sort_of g e))) s q in
      let b = parts_inv g.layout (sort_of g e) a.0 a.1 in
      let c = shape_inv (shape_along g path a.0) (λ p. where_holds (are_same (sort_at p) (sort_of g x)) (sort_of g e)) s a.2 in
      let d = where_inv (are_same (sort_at c.0) (sort_of g x)) (sort_of g e) s c.2 in ap is_truth (sym d.1 ∙ b.1)

  this_is : (n : ℕ) (o : Option ℕ) → is_this n o ≡ true → o ≡ Some n
  this_is n (Some m) h = ap (λ k. Some k) (eqb-true m n h)
  this_is n None h = absurd cc

  is_so : (n : ℕ) → is_this n (Some n) ≡ true
  is_so n = (Decides-eqb n n).1 refl

  of_width : (e : Exp) (n : ℕ) → IsSorted g e → IsTrue (is_this n (left_width g e)) ↔ (sort_of g e ≡ word_sort n)
  of_width e n h = (
    (λ k. h.1 ∙ width_inv (Some h.0) n (left_width_is g e h.0 h.1 ∙ this_is n (left_width g e) k)),
    (λ k. ap (is_this n) (sym (left_width_is g e (Of (WordSort n)) k)) ∙ is_so n),
  )

  pub of_kind : (e : Exp) (k : Kind) → IsSorted g e → IsTrue (left_kind g e k) ↔ (sort_of g e ≡ sort_seen (view_for k))
  of_kind e (WordKind n) h = of_width e n h
  of_kind e (NatKind n) h = of_width e n h
  of_kind e (IntKind n) h = of_width e n h
  of_kind e BoolKind h = (
    (λ k. h.1 ∙ truth_inv (Some h.0) (left_truth_is e h.0 h.1 ∙ k)),
    (λ k. sym (left_truth_is e (Of TruthSort) k)),
  )
