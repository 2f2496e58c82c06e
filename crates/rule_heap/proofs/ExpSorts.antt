-- A lifted expression has the sort that it had.
use Rattle.std.proofs.Common.{◌≡◌, not, cond, ◌&&◌, Option, Some, None, refl, ap, ap₂, ◌∙◌}
use Rattle.c_values.specs.Types.{CType, address_width}
use Rattle.c_values.specs.Layout.{Layout, Shape, Record, Row, shape_of, is_object}
use Rattle.c_values.specs.Path.{Spot, member_spot}
use Rattle.expression_lang.specs.Expression.{Exp, WordBinary, WordShift, WordUnary, WordCompare, Cast, ToNat, ToInt, ToWord, Arith, Negate, Lt, Le, Between, Eq, And, Or, Imp, Not, If, Padd, At, Load, Read, Tagged, PtrOk, Global, Sel, Upd, Path, Here, IntoField, IntoElement}
use Rattle.expression_lang.specs.Sort.{Sort, Scope, sort_of, shape_along, shape_in, sort_at, is_width, word_width, is_word_of, is_number, is_truth, number_sort, truth_sort, where_holds, of_words, of_word, word_sort, are_same, of_shape, of_type, parts_shape, cast_fits, is_unary, is_one_step}
use Rattle.expression_lang.specs.Sorted.{program_sort}
use Rattle.rule_heap.specs.ExpLifted.{exp_lifted, path_lifted}
use Rattle.rule_heap.proofs.ExpForms.{parts_stay}

one_step : (path : Path) → is_one_step (path_lifted path) ≡ is_one_step path
one_step (IntoField k Here) = refl
one_step (IntoElement e Here) = refl
one_step _ = refl

-- a shape at the end of the path of a place
at_end : (f g : Shape → Option Shape) (o : Option Shape) (k : Shape → Option Sort) → ((s : Shape) → f s ≡ g s) → of_shape o (λ s. of_shape (f s) k) ≡ of_shape o (λ s. of_shape (g s) k)
at_end f g None k h = refl
at_end f g (Some s) k h = ap (λ o. of_shape o k) (h s)

by_member : (o : Option Spot) (f k : Shape → Option Shape) → ((s : Shape) → f s ≡ k s) → shape_in o f ≡ shape_in o k
by_member None f k h = refl
by_member (Some q) f k h = h q.shape

at_type : (l : Layout) (o : Option CType) (f k : Shape → Option Shape) → ((s : Shape) → f s ≡ k s) →
    of_type o (λ t. where_holds (is_object l t) (of_shape (f (shape_of l t)) sort_at)) ≡ of_type o (λ t. where_holds (is_object l t) (of_shape (k (shape_of l t)) sort_at))
at_type l None f k h = refl
at_type l (Some t) f k h = ap (λ q. where_holds (is_object l t) (of_shape q sort_at)) (h (shape_of l t))

module _ (g : Scope) where
  mutual
    pub sort_stays : (e : Exp) → sort_of g (exp_lifted e) ≡ sort_of g e
    sort_stays (WordBinary op a b) = ap₂ (λ o q. of_words (word_width o) (word_width q) word_sort) (sort_stays a) (sort_stays b)
    sort_stays (WordShift op a b) = ap₂ (λ o q. where_holds (is_number q) (of_word (word_width o) word_sort)) (sort_stays a) (sort_stays b)
    sort_stays (WordUnary op a) = ap (λ o. of_word (word_width o) word_sort) (sort_stays a)
    sort_stays (WordCompare op a b) = ap₂ (λ o q. of_words (word_width o) (word_width q) (λ n. truth_sort)) (sort_stays a) (sort_stays b)
    sort_stays (Cast op n a) = ap (λ o. of_word (word_width o) (λ from. where_holds (is_width n && cast_fits op from n) (word_sort n))) (sort_stays a)
    sort_stays (ToNat a) = ap (λ o. of_word (word_width o) (λ n. number_sort)) (sort_stays a)
    sort_stays (ToInt a) = ap (λ o. of_word (word_width o) (λ n. number_sort)) (sort_stays a)
    sort_stays (ToWord n a) = ap (λ o. where_holds (is_width n && is_number o) (word_sort n)) (sort_stays a)
    sort_stays (Arith op a b) = ap₂ (λ o q. where_holds (not (is_unary op) && is_number o && is_number q) number_sort) (sort_stays a) (sort_stays b)
    sort_stays (Negate a) = ap (λ o. where_holds (is_number o) number_sort) (sort_stays a)
    sort_stays (Lt a b) = ap₂ (λ o q. where_holds (is_number o && is_number q) truth_sort) (sort_stays a) (sort_stays b)
    sort_stays (Le a b) = ap₂ (λ o q. where_holds (is_number o && is_number q) truth_sort) (sort_stays a) (sort_stays b)
    sort_stays (Between low a high) = ap (λ o. where_holds (is_number o) truth_sort) (sort_stays a)
    sort_stays (Eq a b) = ap₂ (λ o q. where_holds (are_same o q) truth_sort) (sort_stays a) (sort_stays b)
    sort_stays (And a b) = ap₂ (λ o q. where_holds (is_truth o && is_truth q) truth_sort) (sort_stays a) (sort_stays b)
    sort_stays (Or a b) = ap₂ (λ o q. where_holds (is_truth o && is_truth q) truth_sort) (sort_stays a) (sort_stays b)
    sort_stays (Imp a b) = ap₂ (λ o q. where_holds (is_truth o && is_truth q) truth_sort) (sort_stays a) (sort_stays b)
    sort_stays (Not a) = ap (λ o. where_holds (is_truth o) truth_sort) (sort_stays a)
    sort_stays (If a b c) = ap₂ (λ o q. where_holds (is_truth o && are_same q (sort_of g (exp_lifted c))) q) (sort_stays a) (sort_stays b) ∙ ap (λ r. where_holds (is_truth (sort_of g a) && are_same (sort_of g b) r) (sort_of g b)) (sort_stays c)
    sort_stays (Padd t a b) = ap₂ (λ o q. where_holds (is_object g.layout t && is_word_of (address_width g.layout.target) o && is_number q) (word_sort (address_width g.layout.target))) (sort_stays a) (sort_stays b)
    sort_stays (At t a path) = ap₂ (λ o q. where_holds (is_object g.layout t && is_word_of (address_width g.layout.target) o) (of_shape q (λ s. word_sort (address_width g.layout.target)))) (sort_stays a) (along_stays path (shape_of g.layout t))
    sort_stays (Load t a path) = ap₂ (λ o q. where_holds (is_object g.layout t && is_word_of (address_width g.layout.target) o) (of_shape q sort_at)) (sort_stays a) (along_stays path (shape_of g.layout t))
    sort_stays (Read t a path) = ap₂ (λ o q. where_holds (is_object g.layout t && is_word_of (address_width g.layout.target) o) (of_shape q sort_at)) (sort_stays a) (along_stays path (shape_of g.layout t))
    sort_stays (Tagged t a) = ap (λ o. where_holds (is_object g.layout t && is_word_of (address_width g.layout.target) o) truth_sort) (sort_stays a)
    sort_stays (PtrOk t a) = ap (λ o. where_holds (is_object g.layout t && is_word_of (address_width g.layout.target) o) truth_sort) (sort_stays a)
    sort_stays (Global x path) = at_type g.layout (g.globals x) (λ s. shape_along g (path_lifted path) s) (λ s. shape_along g path s) (λ s. along_stays path s)
    sort_stays (Sel a path) = ap₂ (λ b o. where_holds b (of_shape (parts_shape g.layout o) (λ s. of_shape (shape_along g (path_lifted path) s) sort_at))) (one_step path) (sort_stays a)
        ∙ ap (λ o. where_holds (is_one_step path) o) (at_end (λ s. shape_along g (path_lifted path) s) (λ s. shape_along g path s) (parts_shape g.layout (sort_of g a)) sort_at (λ s. along_stays path s))
    sort_stays (Upd a path b) = ap₂ (λ o q. of_shape (parts_shape g.layout o) (λ s. of_shape (shape_along g (path_lifted path) s) (λ r. where_holds (are_same (sort_at r) q) o))) (sort_stays a) (sort_stays b)
        ∙ at_end (λ s. shape_along g (path_lifted path) s) (λ s. shape_along g path s) (parts_shape g.layout (sort_of g a)) (λ r. where_holds (are_same (sort_at r) (sort_of g b)) (sort_of g a)) (λ s. along_stays path s)
    sort_stays _ = refl

    pub along_stays : (path : Path) (s : Shape) → shape_along g (path_lifted path) s ≡ shape_along g path s
    along_stays (IntoField k path) (Record x n align fs) = by_member (member_spot fs k) (λ s. shape_along g (path_lifted path) s) (λ s. shape_along g path s) (λ s. along_stays path s)
    along_stays (IntoElement e path) (Row s n) = ap₂ (λ b o. cond b o None) (ap is_number (sort_stays e)) (along_stays path s)
    along_stays _ _ = refl

  pub program_sort_stays : (e : Exp) → program_sort g (exp_lifted e) ≡ program_sort g e
  program_sort_stays e = ap₂ (λ b o. cond b None o) (parts_stay e) (sort_stays e)
