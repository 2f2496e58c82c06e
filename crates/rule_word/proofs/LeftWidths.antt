-- The width along first operands is that of the sort, where there is one.
use Rattle.std.proofs.Common.{◌≡◌, ◌^◌, nat_lt, Bool, true, false, cond, not, ◌&&◌, Option, Some, None, sym, ap, ◌∙◌}
use Rattle.c_values.specs.Types.{CType, address_width}
use Rattle.c_values.specs.Layout.{Shape, Record, Row as Elements, shape_of, is_object}
use Rattle.c_values.specs.Path.{member_spot, Spot}
use Rattle.expression_lang.specs.Expression as X
use Rattle.expression_lang.specs.Expression.{Exp, Path}
use Rattle.expression_lang.specs.Sort.{Sort, Of, WordSort, Scope, sort_of, shape_along, shape_in, sort_at, word_sort, number_sort, truth_sort, word_width, is_width, is_number, is_truth, is_word_of, is_unary, are_same, cast_fits, where_holds, of_word, of_shape, of_type}
use Rattle.expression_lang.proofs.Inversion.{where_inv, words_inv, word_inv, width_inv, shape_inv, type_inv}
use Rattle.rule_word.specs.LeftWidth.{shape_there, left_width}

module _ (g : Scope) where
  same_end : (path : Path) (s q : Shape) → shape_along g path s ≡ Some q → shape_there path s ≡ Some q
  same_end X.Here s q h = h
  same_end (X.IntoField k path) (Record y n align ms) q h = by_member (member_spot ms k) h (λ r i. same_end path r q i)
    where
      by_member : (o : Option Spot) → shape_in o (λ s. shape_along g path s) ≡ Some q → ((r : Shape) → shape_along g path r ≡ Some q → shape_there path r ≡ Some q) → shape_in o (λ s. shape_there path s) ≡ Some q
      by_member None h rest = absurd cc
      by_member (Some r) h rest = rest r.shape h
  same_end (X.IntoElement e path) (Elements r n) q h = by_index (is_number (sort_of g e)) h (λ i. same_end path r q i)
    where
      by_index : (b : Bool) → cond b (shape_along g path r) None ≡ Some q → (shape_along g path r ≡ Some q → shape_there path r ≡ Some q) → shape_there path r ≡ Some q
      by_index true h rest = rest h
      by_index false h rest = absurd cc
  same_end _ _ q h = absurd cc

  at_end : (path : Path) (t : CType) (s : Sort) → of_shape (shape_along g path (shape_of g.layout t)) sort_at ≡ Some s → of_shape (shape_there path (shape_of g.layout t)) sort_at ≡ Some s
  at_end path t s h =
      let i = shape_inv (shape_along g path (shape_of g.layout t)) sort_at s h in
      ap (λ o. of_shape o sort_at) (same_end path (shape_of g.layout t) i.0 i.1) ∙ i.2

  root_end : (t : CType) (p : Exp) (path : Path) (s : Sort) → where_holds (is_object g.layout t && is_word_of (address_width g.layout.target) (sort_of g p)) (of_shape (shape_along g path (shape_of g.layout t)) sort_at) ≡ Some s →
      word_width (Some s) ≡ word_width (of_shape (shape_there path (shape_of g.layout t)) sort_at)
  root_end t p path s q =
      ap word_width (sym (at_end path t s (where_inv (is_object g.layout t && is_word_of (address_width g.layout.target) (sort_of g p)) (of_shape (shape_along g path (shape_of g.layout t)) sort_at) s q).1))

  held : (b : Bool) (o : Option Sort) (s : Sort) → where_holds b o ≡ Some s → word_width (Some s) ≡ word_width o
  held b o s q = ap word_width (sym (where_inv b o s q).1)

  pub left_width_is : (e : Exp) (s : Sort) → sort_of g e ≡ Some s → word_width (Some s) ≡ left_width g e
  left_width_is (X.Var x) s q = ap word_width (sym q)
  left_width_is (X.WordLit w) s q = held (is_width w.width && nat_lt w.bits (2 ^ w.width)) (word_sort w.width) s q
  left_width_is (X.NumberLit n) s q = ap word_width (sym q)
  left_width_is (X.TruthLit b) s q = ap word_width (sym q)
  left_width_is (X.WordBinary op a b) s q =
      let i = words_inv (word_width (sort_of g a)) (word_width (sort_of g b)) word_sort s q in
      ap word_width (sym i.3) ∙ left_width_is a (Of (WordSort i.0)) (width_inv (sort_of g a) i.0 i.1)
  left_width_is (X.WordShift op a n) s q =
      let r = where_inv (is_number (sort_of g n)) (of_word (word_width (sort_of g a)) word_sort) s q in
      let i = word_inv (word_width (sort_of g a)) word_sort s r.1 in
      ap word_width (sym i.2) ∙ left_width_is a (Of (WordSort i.0)) (width_inv (sort_of g a) i.0 i.1)
  left_width_is (X.WordUnary op a) s q =
      let i = word_inv (word_width (sort_of g a)) word_sort s q in
      ap word_width (sym i.2) ∙ left_width_is a (Of (WordSort i.0)) (width_inv (sort_of g a) i.0 i.1)
  left_width_is (X.WordCompare test a b) s q =
      let i = words_inv (word_width (sort_of g a)) (word_width (sort_of g b)) (λ n. truth_sort) s q in ap word_width (sym i.3)
  left_width_is (X.Cast op m a) s q =
      let i = word_inv (word_width (sort_of g a)) (λ from. where_holds (is_width m && cast_fits op from m) (word_sort m)) s q in
      held (is_width m && cast_fits op i.0 m) (word_sort m) s i.2
  left_width_is (X.ToNat a) s q = let i = word_inv (word_width (sort_of g a)) (λ n. number_sort) s q in ap word_width (sym i.2)
  left_width_is (X.ToInt a) s q = let i = word_inv (word_width (sort_of g a)) (λ n. number_sort) s q in ap word_width (sym i.2)
  left_width_is (X.ToWord m a) s q = held (is_width m && is_number (sort_of g a)) (word_sort m) s q
  left_width_is (X.Arith op a b) s q = held (not (is_unary op) && is_number (sort_of g a) && is_number (sort_of g b)) number_sort s q
  left_width_is (X.Negate a) s q = held (is_number (sort_of g a)) number_sort s q
  left_width_is (X.Lt a b) s q = held (is_number (sort_of g a) && is_number (sort_of g b)) truth_sort s q
  left_width_is (X.Le a b) s q = held (is_number (sort_of g a) && is_number (sort_of g b)) truth_sort s q
  left_width_is (X.Between low a high) s q = held (is_number (sort_of g a)) truth_sort s q
  left_width_is (X.Eq a b) s q = held (are_same (sort_of g a) (sort_of g b)) truth_sort s q
  left_width_is (X.And a b) s q = held (is_truth (sort_of g a) && is_truth (sort_of g b)) truth_sort s q
  left_width_is (X.Or a b) s q = held (is_truth (sort_of g a) && is_truth (sort_of g b)) truth_sort s q
  left_width_is (X.Imp a b) s q = held (is_truth (sort_of g a) && is_truth (sort_of g b)) truth_sort s q
  left_width_is (X.Not a) s q = held (is_truth (sort_of g a)) truth_sort s q
  left_width_is (X.If c a b) s q = left_width_is a s (where_inv (is_truth (sort_of g c) && are_same (sort_of g a) (sort_of g b)) (sort_of g a) s q).1
  left_width_is (X.Padd t p n) s q =
      held (is_object g.layout t && is_word_of (address_width g.layout.target) (sort_of g p) && is_number (sort_of g n)) (word_sort (address_width g.layout.target)) s q
  left_width_is (X.At t p path) s q =
      let r = where_inv (is_object g.layout t && is_word_of (address_width g.layout.target) (sort_of g p)) (of_shape (shape_along g path (shape_of g.layout t)) (λ r. word_sort (address_width g.layout.target))) s q in
      let i = shape_inv (shape_along g path (shape_of g.layout t)) (λ r. word_sort (address_width g.layout.target)) s r.1 in ap word_width (sym i.2)
  left_width_is (X.Load t p path) s q = root_end t p path s q
  left_width_is (X.Read t p path) s q = root_end t p path s q
  left_width_is (X.Tagged t p) s q = held (is_object g.layout t && is_word_of (address_width g.layout.target) (sort_of g p)) truth_sort s q
  left_width_is (X.PtrOk t p) s q = held (is_object g.layout t && is_word_of (address_width g.layout.target) (sort_of g p)) truth_sort s q
  left_width_is (X.Global x path) s q =
      let a = type_inv (g.globals x) (λ t. where_holds (is_object g.layout t) (of_shape (shape_along g path (shape_of g.layout t)) sort_at)) s q in
      let r = where_inv (is_object g.layout a.0) (of_shape (shape_along g path (shape_of g.layout a.0)) sort_at) s a.2 in
      ap word_width (sym (at_end path a.0 s r.1)) ∙ ap (λ o. word_width (of_type o (λ t. of_shape (shape_there path (shape_of g.layout t)) sort_at))) (sym a.1)
  left_width_is (X.Sel e path) s q = ap word_width (sym q)
  left_width_is (X.Upd e path v) s q = ap word_width (sym q)
