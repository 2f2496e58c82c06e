-- What a step is made in has the sort that it had, where the choice keeps sorts.
use Rattle.std.proofs.Common.{◌≡◌, ℕ, not, cond, ◌&&◌, List, ◌∷◌, Option, Some, None, refl, sym, ap, ◌∙◌}
use Rattle.c_values.specs.Types.{CType, address_width}
use Rattle.c_values.specs.Layout.{Shape, Record, Row, is_object, shape_of}
use Rattle.c_values.specs.Path.{Spot, member_spot}
use Rattle.expression_lang.specs.Expression.{Exp, Var, WordLit, NumberLit, TruthLit, WordBinary, WordShift, WordUnary, WordCompare, Cast, ToNat, ToInt, ToWord, Arith, Negate, Lt, Le, Between, Eq, And, Or, Imp, Not, If, Padd, At, Load, Read, Tagged, PtrOk, Global, Sel, Upd, Path, Here, IntoField, IntoElement}
use Rattle.expression_lang.specs.Sort.{Sort, Scope, sort_of, shape_along, shape_in, sort_at, word_width, is_word_of, is_number, is_truth, is_unary, is_width, cast_fits, number_sort, truth_sort, word_sort, where_holds, of_words, of_word, are_same, of_shape, of_type}
use Rattle.ac_expr.specs.Fact.{Fact, Whole, NotTrue}
use Rattle.ac_expr.specs.Heads.{path_children}
use Rattle.ac_expr.proofs.PartsSorted.{IsSorted, AreSorted, children_sorted}
use Rattle.expression_steps.specs.Rewritten.{Choice, first_step, path_step}
use Rattle.polish.proofs.Cases.{first_case, one_case, two_case, three_case}

-- what stands in an expression's place has its sort
abbrev pub KeepsSorts : Scope → Choice → Type 0
KeepsSorts g f = (fs : List Fact) (a b : Exp) → f fs a ≡ Some b → (o : Sort) → sort_of g a ≡ Some o → sort_of g b ≡ Some o

module _ (g : Scope) (f : Choice) (keeps : KeepsSorts g f) where
  here : (fs : List Fact) (a r : Exp) → f fs a ≡ Some r → IsSorted g a → sort_of g r ≡ sort_of g a
  here fs a r h c = keeps fs a r h c.0 c.1 ∙ sym c.1

  by_member : (k m : Shape → Option Shape) (o : Option Spot) → ((s : Shape) → k s ≡ m s) → shape_in o k ≡ shape_in o m
  by_member k m None h = refl
  by_member k m (Some q) h = h q.shape

  of_global : (o : Option CType) (path r : Path) → ((s : Shape) → shape_along g r s ≡ shape_along g path s) →
      of_type o (λ t. where_holds (is_object g.layout t) (of_shape (shape_along g r (shape_of g.layout t)) sort_at))
      ≡ of_type o (λ t. where_holds (is_object g.layout t) (of_shape (shape_along g path (shape_of g.layout t)) sort_at))
  of_global None path r h = refl
  of_global (Some t) path r h = ap (λ q. where_holds (is_object g.layout t) (of_shape q sort_at)) (h (shape_of g.layout t))

  field_along : (k' : ℕ) (path r : Path) (s : Shape) → ((q : Shape) → shape_along g r q ≡ shape_along g path q) →
      shape_along g (IntoField k' r) s ≡ shape_along g (IntoField k' path) s
  field_along k' path r (Record x n align fs) h =
      by_member (λ q. shape_along g r q) (λ q. shape_along g path q) (member_spot fs k') h
  field_along k' path r _ h = refl

  element_along : (a b : Exp) (path r : Path) (s : Shape) → sort_of g b ≡ sort_of g a →
      ((q : Shape) → shape_along g r q ≡ shape_along g path q) →
      shape_along g (IntoElement b r) s ≡ shape_along g (IntoElement a path) s
  element_along a b path r (Row s n) h k =
      ap (λ o. cond (is_number o) (shape_along g r s) None) h ∙ ap (λ o. cond (is_number (sort_of g a)) o None) (k s)
  element_along a b path r _ h k = refl

  mutual
    pub step_sort : (fs : List Fact) (a r : Exp) → first_step f fs a ≡ Some r → IsSorted g a → sort_of g r ≡ sort_of g a
    step_sort fs (Var x) r h c = here fs (Var x) r h c
    step_sort fs (WordLit w) r h c = here fs (WordLit w) r h c
    step_sort fs (NumberLit n) r h c = here fs (NumberLit n) r h c
    step_sort fs (TruthLit b) r h c = here fs (TruthLit b) r h c
    step_sort fs (WordBinary op a b) r h c =
        let d = children_sorted g (WordBinary op a b) c in
        first_case r (λ z. sort_of g z ≡ sort_of g (WordBinary op a b)) _ _ h (λ i. here fs (WordBinary op a b) r i c)
        (λ i.
        two_case r (λ z. sort_of g z ≡ sort_of g (WordBinary op a b)) (λ x y. WordBinary op x y) a b _ _ i
        (λ x j. ap (λ s. of_words (word_width s) (word_width (sort_of g b)) word_sort) (step_sort fs a x j d.0))
        (λ y j. ap (λ q. of_words (word_width (sort_of g a)) (word_width q) word_sort) (step_sort fs b y j d.1.0)))
    step_sort fs (WordShift op a n) r h c =
        let d = children_sorted g (WordShift op a n) c in
        first_case r (λ z. sort_of g z ≡ sort_of g (WordShift op a n)) _ _ h (λ i. here fs (WordShift op a n) r i c)
        (λ i.
        two_case r (λ z. sort_of g z ≡ sort_of g (WordShift op a n)) (λ x y. WordShift op x y) a n _ _ i
        (λ x j. ap (λ s. where_holds (is_number (sort_of g n)) (of_word (word_width s) word_sort)) (step_sort fs a x j d.0))
        (λ y j. ap (λ q. where_holds (is_number q) (of_word (word_width (sort_of g a)) word_sort)) (step_sort fs n y j d.1.0)))
    step_sort fs (WordUnary op a) r h c =
        first_case r (λ z. sort_of g z ≡ sort_of g (WordUnary op a)) _ _ h (λ i. here fs (WordUnary op a) r i c)
        (λ i.
        one_case r (λ z. sort_of g z ≡ sort_of g (WordUnary op a)) (λ x. WordUnary op x) _ i
        (λ x j. ap (λ s. of_word (word_width s) word_sort) (step_sort fs a x j (children_sorted g (WordUnary op a) c).0)))
    step_sort fs (WordCompare op a b) r h c =
        let d = children_sorted g (WordCompare op a b) c in
        first_case r (λ z. sort_of g z ≡ sort_of g (WordCompare op a b)) _ _ h (λ i. here fs (WordCompare op a b) r i c)
        (λ i.
        two_case r (λ z. sort_of g z ≡ sort_of g (WordCompare op a b)) (λ x y. WordCompare op x y) a b _ _ i
        (λ x j. ap (λ s. of_words (word_width s) (word_width (sort_of g b)) (λ n. truth_sort)) (step_sort fs a x j d.0))
        (λ y j. ap (λ q. of_words (word_width (sort_of g a)) (word_width q) (λ n. truth_sort)) (step_sort fs b y j d.1.0)))
    step_sort fs (Cast op width a) r h c =
        first_case r (λ z. sort_of g z ≡ sort_of g (Cast op width a)) _ _ h (λ i. here fs (Cast op width a) r i c)
        (λ i.
        one_case r (λ z. sort_of g z ≡ sort_of g (Cast op width a)) (λ x. Cast op width x) _ i
        (λ x j.
        ap
        (λ s. of_word (word_width s) (λ from. where_holds (is_width width && cast_fits op from width) (word_sort width)))
        (step_sort fs a x j (children_sorted g (Cast op width a) c).0)))
    step_sort fs (ToNat a) r h c =
        first_case r (λ z. sort_of g z ≡ sort_of g (ToNat a)) _ _ h (λ i. here fs (ToNat a) r i c)
        (λ i.
        one_case r (λ z. sort_of g z ≡ sort_of g (ToNat a)) (λ x. ToNat x) _ i
        (λ x j. ap (λ s. of_word (word_width s) (λ n. number_sort)) (step_sort fs a x j (children_sorted g (ToNat a) c).0)))
    step_sort fs (ToInt a) r h c =
        first_case r (λ z. sort_of g z ≡ sort_of g (ToInt a)) _ _ h (λ i. here fs (ToInt a) r i c)
        (λ i.
        one_case r (λ z. sort_of g z ≡ sort_of g (ToInt a)) (λ x. ToInt x) _ i
        (λ x j. ap (λ s. of_word (word_width s) (λ n. number_sort)) (step_sort fs a x j (children_sorted g (ToInt a) c).0)))
    step_sort fs (ToWord width a) r h c =
        first_case r (λ z. sort_of g z ≡ sort_of g (ToWord width a)) _ _ h (λ i. here fs (ToWord width a) r i c)
        (λ i.
        one_case r (λ z. sort_of g z ≡ sort_of g (ToWord width a)) (λ x. ToWord width x) _ i
        (λ x j.
        ap (λ s. where_holds (is_width width && is_number s) (word_sort width))
        (step_sort fs a x j (children_sorted g (ToWord width a) c).0)))
    step_sort fs (Arith op a b) r h c =
        let d = children_sorted g (Arith op a b) c in
        first_case r (λ z. sort_of g z ≡ sort_of g (Arith op a b)) _ _ h (λ i. here fs (Arith op a b) r i c)
        (λ i.
        two_case r (λ z. sort_of g z ≡ sort_of g (Arith op a b)) (λ x y. Arith op x y) a b _ _ i
        (λ x j.
        ap (λ s. where_holds (not (is_unary op) && is_number s && is_number (sort_of g b)) number_sort)
        (step_sort fs a x j d.0))
        (λ y j.
        ap (λ q. where_holds (not (is_unary op) && is_number (sort_of g a) && is_number q) number_sort)
        (step_sort fs b y j d.1.0)))
    step_sort fs (Negate a) r h c =
        first_case r (λ z. sort_of g z ≡ sort_of g (Negate a)) _ _ h (λ i. here fs (Negate a) r i c)
        (λ i.
        one_case r (λ z. sort_of g z ≡ sort_of g (Negate a)) (λ x. Negate x) _ i
        (λ x j. ap (λ s. where_holds (is_number s) number_sort) (step_sort fs a x j (children_sorted g (Negate a) c).0)))
    step_sort fs (Lt a b) r h c =
        let d = children_sorted g (Lt a b) c in
        first_case r (λ z. sort_of g z ≡ sort_of g (Lt a b)) _ _ h (λ i. here fs (Lt a b) r i c)
        (λ i.
        two_case r (λ z. sort_of g z ≡ sort_of g (Lt a b)) (λ x y. Lt x y) a b _ _ i
        (λ x j. ap (λ s. where_holds (is_number s && is_number (sort_of g b)) truth_sort) (step_sort fs a x j d.0))
        (λ y j. ap (λ q. where_holds (is_number (sort_of g a) && is_number q) truth_sort) (step_sort fs b y j d.1.0)))
    step_sort fs (Le a b) r h c =
        let d = children_sorted g (Le a b) c in
        first_case r (λ z. sort_of g z ≡ sort_of g (Le a b)) _ _ h (λ i. here fs (Le a b) r i c)
        (λ i.
        two_case r (λ z. sort_of g z ≡ sort_of g (Le a b)) (λ x y. Le x y) a b _ _ i
        (λ x j. ap (λ s. where_holds (is_number s && is_number (sort_of g b)) truth_sort) (step_sort fs a x j d.0))
        (λ y j. ap (λ q. where_holds (is_number (sort_of g a) && is_number q) truth_sort) (step_sort fs b y j d.1.0)))
    step_sort fs (Between low a high) r h c =
        first_case r (λ z. sort_of g z ≡ sort_of g (Between low a high)) _ _ h (λ i. here fs (Between low a high) r i c)
        (λ i.
        one_case r (λ z. sort_of g z ≡ sort_of g (Between low a high)) (λ x. Between low x high) _ i
        (λ x j.
        ap (λ s. where_holds (is_number s) truth_sort) (step_sort fs a x j (children_sorted g (Between low a high) c).0)))
    step_sort fs (Eq a b) r h c =
        let d = children_sorted g (Eq a b) c in
        first_case r (λ z. sort_of g z ≡ sort_of g (Eq a b)) _ _ h (λ i. here fs (Eq a b) r i c)
        (λ i.
        two_case r (λ z. sort_of g z ≡ sort_of g (Eq a b)) (λ x y. Eq x y) a b _ _ i
        (λ x j. ap (λ s. where_holds (are_same s (sort_of g b)) truth_sort) (step_sort fs a x j d.0))
        (λ y j. ap (λ q. where_holds (are_same (sort_of g a) q) truth_sort) (step_sort fs b y j d.1.0)))
    step_sort fs (And a b) r h c =
        let d = children_sorted g (And a b) c in
        first_case r (λ z. sort_of g z ≡ sort_of g (And a b)) _ _ h (λ i. here fs (And a b) r i c)
        (λ i.
        two_case r (λ z. sort_of g z ≡ sort_of g (And a b)) (λ x y. And x y) a b _ _ i
        (λ x j. ap (λ s. where_holds (is_truth s && is_truth (sort_of g b)) truth_sort) (step_sort fs a x j d.0))
        (λ y j.
        ap (λ q. where_holds (is_truth (sort_of g a) && is_truth q) truth_sort) (step_sort (Whole a ∷ fs) b y j d.1.0)))
    step_sort fs (Or a b) r h c =
        let d = children_sorted g (Or a b) c in
        first_case r (λ z. sort_of g z ≡ sort_of g (Or a b)) _ _ h (λ i. here fs (Or a b) r i c)
        (λ i.
        two_case r (λ z. sort_of g z ≡ sort_of g (Or a b)) (λ x y. Or x y) a b _ _ i
        (λ x j. ap (λ s. where_holds (is_truth s && is_truth (sort_of g b)) truth_sort) (step_sort fs a x j d.0))
        (λ y j.
        ap (λ q. where_holds (is_truth (sort_of g a) && is_truth q) truth_sort) (step_sort (NotTrue a ∷ fs) b y j d.1.0)))
    step_sort fs (Imp a b) r h c =
        let d = children_sorted g (Imp a b) c in
        first_case r (λ z. sort_of g z ≡ sort_of g (Imp a b)) _ _ h (λ i. here fs (Imp a b) r i c)
        (λ i.
        two_case r (λ z. sort_of g z ≡ sort_of g (Imp a b)) (λ x y. Imp x y) a b _ _ i
        (λ x j. ap (λ s. where_holds (is_truth s && is_truth (sort_of g b)) truth_sort) (step_sort fs a x j d.0))
        (λ y j.
        ap (λ q. where_holds (is_truth (sort_of g a) && is_truth q) truth_sort) (step_sort (Whole a ∷ fs) b y j d.1.0)))
    step_sort fs (Not a) r h c =
        first_case r (λ z. sort_of g z ≡ sort_of g (Not a)) _ _ h (λ i. here fs (Not a) r i c)
        (λ i.
        one_case r (λ z. sort_of g z ≡ sort_of g (Not a)) (λ x. Not x) _ i
        (λ x j. ap (λ s. where_holds (is_truth s) truth_sort) (step_sort fs a x j (children_sorted g (Not a) c).0)))
    step_sort fs (If c' a b) r h c =
        let d = children_sorted g (If c' a b) c in
        first_case r (λ z. sort_of g z ≡ sort_of g (If c' a b)) _ _ h (λ i. here fs (If c' a b) r i c)
        (λ i.
        three_case r (λ z. sort_of g z ≡ sort_of g (If c' a b)) (λ x y z. If x y z) c' a b _ _ _ i
        (λ x j.
        ap (λ s. where_holds (is_truth s && are_same (sort_of g a) (sort_of g b)) (sort_of g a))
        (step_sort fs c' x j d.0))
        (λ y j.
        ap (λ q. where_holds (is_truth (sort_of g c') && are_same q (sort_of g b)) q)
        (step_sort (Whole c' ∷ fs) a y j d.1.0))
        (λ z j.
        ap (λ w. where_holds (is_truth (sort_of g c') && are_same (sort_of g a) w) (sort_of g a))
        (step_sort (NotTrue c' ∷ fs) b z j d.1.1.0)))
    step_sort fs (Padd t p n) r h c =
        let d = children_sorted g (Padd t p n) c in
        first_case r (λ z. sort_of g z ≡ sort_of g (Padd t p n)) _ _ h (λ i. here fs (Padd t p n) r i c)
        (λ i.
        two_case r (λ z. sort_of g z ≡ sort_of g (Padd t p n)) (λ x y. Padd t x y) p n _ _ i
        (λ x j.
        ap
        (λ s.
        where_holds (is_object g.layout t && is_word_of (address_width g.layout.target) s && is_number (sort_of g n))
        (word_sort (address_width g.layout.target)))
        (step_sort fs p x j d.0))
        (λ y j.
        ap
        (λ q.
        where_holds (is_object g.layout t && is_word_of (address_width g.layout.target) (sort_of g p) && is_number q)
        (word_sort (address_width g.layout.target)))
        (step_sort fs n y j d.1.0)))
    step_sort fs (At t p path) r h c =
        let d = children_sorted g (At t p path) c in
        first_case r (λ z. sort_of g z ≡ sort_of g (At t p path)) _ _ h (λ i. here fs (At t p path) r i c)
        (λ i.
        two_case r (λ z. sort_of g z ≡ sort_of g (At t p path)) (λ x y. At t x y) p path _ _ i
        (λ x j.
        ap
        (λ s.
        where_holds (is_object g.layout t && is_word_of (address_width g.layout.target) s)
        (of_shape (shape_along g path (shape_of g.layout t)) (λ v. word_sort (address_width g.layout.target))))
        (step_sort fs p x j d.0))
        (λ y j.
        ap
        (λ q.
        where_holds (is_object g.layout t && is_word_of (address_width g.layout.target) (sort_of g p))
        (of_shape q (λ v. word_sort (address_width g.layout.target))))
        (path_along fs path y j d.1 (shape_of g.layout t))))
    step_sort fs (Load t p path) r h c =
        let d = children_sorted g (Load t p path) c in
        first_case r (λ z. sort_of g z ≡ sort_of g (Load t p path)) _ _ h (λ i. here fs (Load t p path) r i c)
        (λ i.
        two_case r (λ z. sort_of g z ≡ sort_of g (Load t p path)) (λ x y. Load t x y) p path _ _ i
        (λ x j.
        ap
        (λ s.
        where_holds (is_object g.layout t && is_word_of (address_width g.layout.target) s)
        (of_shape (shape_along g path (shape_of g.layout t)) sort_at))
        (step_sort fs p x j d.0))
        (λ y j.
        ap
        (λ q.
        where_holds (is_object g.layout t && is_word_of (address_width g.layout.target) (sort_of g p))
        (of_shape q sort_at))
        (path_along fs path y j d.1 (shape_of g.layout t))))
    step_sort fs (Read t p path) r h c =
        let d = children_sorted g (Read t p path) c in
        first_case r (λ z. sort_of g z ≡ sort_of g (Read t p path)) _ _ h (λ i. here fs (Read t p path) r i c)
        (λ i.
        two_case r (λ z. sort_of g z ≡ sort_of g (Read t p path)) (λ x y. Read t x y) p path _ _ i
        (λ x j.
        ap
        (λ s.
        where_holds (is_object g.layout t && is_word_of (address_width g.layout.target) s)
        (of_shape (shape_along g path (shape_of g.layout t)) sort_at))
        (step_sort fs p x j d.0))
        (λ y j.
        ap
        (λ q.
        where_holds (is_object g.layout t && is_word_of (address_width g.layout.target) (sort_of g p))
        (of_shape q sort_at))
        (path_along fs path y j d.1 (shape_of g.layout t))))
    step_sort fs (Tagged t p) r h c =
        first_case r (λ z. sort_of g z ≡ sort_of g (Tagged t p)) _ _ h (λ i. here fs (Tagged t p) r i c)
        (λ i.
        one_case r (λ z. sort_of g z ≡ sort_of g (Tagged t p)) (λ x. Tagged t x) _ i
        (λ x j.
        ap (λ s. where_holds (is_object g.layout t && is_word_of (address_width g.layout.target) s) truth_sort)
        (step_sort fs p x j (children_sorted g (Tagged t p) c).0)))
    step_sort fs (PtrOk t p) r h c =
        first_case r (λ z. sort_of g z ≡ sort_of g (PtrOk t p)) _ _ h (λ i. here fs (PtrOk t p) r i c)
        (λ i.
        one_case r (λ z. sort_of g z ≡ sort_of g (PtrOk t p)) (λ x. PtrOk t x) _ i
        (λ x j.
        ap (λ s. where_holds (is_object g.layout t && is_word_of (address_width g.layout.target) s) truth_sort)
        (step_sort fs p x j (children_sorted g (PtrOk t p) c).0)))
    step_sort fs (Global x path) r h c =
        first_case r (λ z. sort_of g z ≡ sort_of g (Global x path)) _ _ h (λ i. here fs (Global x path) r i c)
        (λ i.
        one_case r (λ z. sort_of g z ≡ sort_of g (Global x path)) (λ y. Global x y) _ i
        (λ y j. of_global (g.globals x) path y (path_along fs path y j (children_sorted g (Global x path) c))))
    step_sort fs (Sel e path) r h c = here fs (Sel e path) r h c
    step_sort fs (Upd e path v) r h c = here fs (Upd e path v) r h c

    pub path_along : (fs : List Fact) (path r : Path) → path_step f fs path ≡ Some r → AreSorted g (path_children path) →
        (s : Shape) → shape_along g r s ≡ shape_along g path s
    path_along fs Here r h c s = absurd cc
    path_along fs (IntoField k path) r h c s =
        one_case r (λ z. shape_along g z s ≡ shape_along g (IntoField k path) s) (λ y. IntoField k y) _ h
        (λ y j. field_along k path y s (path_along fs path y j c))
    path_along fs (IntoElement e path) r h c s =
        two_case r (λ z. shape_along g z s ≡ shape_along g (IntoElement e path) s) (λ x y. IntoElement x y) e path _ _ h
        (λ x j. element_along e x path path s (step_sort fs e x j c.0) (λ q. refl))
        (λ y j. element_along e e path y s refl (path_along fs path y j c.1))
