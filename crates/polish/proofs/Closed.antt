-- Expressions that look at no name and no state: they have the same sort in every scope of a layout, and it is a word's of one
-- of the four widths, a number's or a truth value's.
use Rattle.std.proofs.Common.{◌≡◌, ℕ, ◌^◌, nat_lt, Bool, true, false, not, cond, ◌&&◌, ◌||◌, Option, Some, None, refl, ap, ap₂, ◌∙◌, subst}
use Rattle.std.proofs.lemmas.Bool.{and_parts, or_parts, or_from, true≢false}
use Rattle.c_values.specs.Name.{Name}
use Rattle.c_values.specs.Types.{CType, Target, Ilp32, Lp64, address_width}
use Rattle.c_values.specs.Layout.{Layout, Shape, Record, Row, is_object, shape_of}
use Rattle.c_values.specs.Path.{Spot, member_spot}
use Rattle.expression_lang.specs.Expression.{Exp, Var, WordLit, NumberLit, TruthLit, WordBinary, WordShift, WordUnary, WordCompare, Cast, ToNat, ToInt, ToWord, Arith, Negate, Lt, Le, Between, Eq, And, Or, Imp, Not, If, Padd, At, Load, Read, Tagged, PtrOk, Global, Sel, Upd, Path, Here, IntoField, IntoElement}
use Rattle.expression_lang.specs.Form.{has, path_has}
use Rattle.expression_lang.specs.Sort.{Scalar, WordSort, NumberSort, TruthSort, Sort, Of, PartsSort, Scope, sort_of, shape_along, shape_in, word_width, is_word_of, is_number, is_truth, is_unary, is_width, cast_fits, number_sort, truth_sort, word_sort, where_holds, of_words, of_word, are_same, of_shape}
use Rattle.expression_lang.proofs.Inversion.{where_inv, words_inv, word_inv, width_inv, shape_inv, some_is}
use Rattle.ac_expr.specs.Step.{is_open}

module _ (l : Layout) (ns ns' : Name → Option Scalar) (gs gs' : Name → Option CType) where
  abbrev g : Scope
  g = record { layout = l; names = ns; globals = gs }

  abbrev g' : Scope
  g' = record { layout = l; names = ns'; globals = gs' }

  by_member : (k m : Shape → Option Shape) (o : Option Spot) → ((s : Shape) → k s ≡ m s) → shape_in o k ≡ shape_in o m
  by_member k m None h = refl
  by_member k m (Some q) h = h q.shape

  field_along : (k' : ℕ) (path : Path) (s : Shape) → ((q : Shape) → shape_along g path q ≡ shape_along g' path q) →
      shape_along g (IntoField k' path) s ≡ shape_along g' (IntoField k' path) s
  field_along k' path (Record x n align fs) h =
      by_member (λ q. shape_along g path q) (λ q. shape_along g' path q) (member_spot fs k') h
  field_along k' path _ h = refl

  element_along : (a : Exp) (path : Path) (s : Shape) → sort_of g a ≡ sort_of g' a →
      ((q : Shape) → shape_along g path q ≡ shape_along g' path q) →
      shape_along g (IntoElement a path) s ≡ shape_along g' (IntoElement a path) s
  element_along a path (Row s n) h k = ap₂ (λ o q. cond (is_number o) q None) h (k s)
  element_along a path _ h k = refl

  mutual
    pub closed_sort : (e : Exp) → has is_open e ≡ false → sort_of g e ≡ sort_of g' e
    closed_sort (WordLit w) h = refl
    closed_sort (NumberLit n) h = refl
    closed_sort (TruthLit b) h = refl
    closed_sort (WordBinary op a b) h =
        let i = or_parts (has is_open a) (has is_open b) h in
        ap₂ (λ s q. of_words (word_width s) (word_width q) word_sort) (closed_sort a i.0) (closed_sort b i.1)
    closed_sort (WordShift op a n) h =
        let i = or_parts (has is_open a) (has is_open n) h in
        ap₂ (λ s q. where_holds (is_number q) (of_word (word_width s) word_sort)) (closed_sort a i.0) (closed_sort n i.1)
    closed_sort (WordUnary op a) h = ap (λ s. of_word (word_width s) word_sort) (closed_sort a h)
    closed_sort (WordCompare op a b) h =
        let i = or_parts (has is_open a) (has is_open b) h in
        ap₂ (λ s q. of_words (word_width s) (word_width q) (λ n. truth_sort)) (closed_sort a i.0) (closed_sort b i.1)
    closed_sort (Cast op width a) h =
        ap (λ s. of_word (word_width s) (λ from. where_holds (is_width width && cast_fits op from width) (word_sort width)))
        (closed_sort a h)
    closed_sort (ToNat a) h = ap (λ s. of_word (word_width s) (λ n. number_sort)) (closed_sort a h)
    closed_sort (ToInt a) h = ap (λ s. of_word (word_width s) (λ n. number_sort)) (closed_sort a h)
    closed_sort (ToWord width a) h = ap (λ s. where_holds (is_width width && is_number s) (word_sort width)) (closed_sort a h)
    closed_sort (Arith op a b) h =
        let i = or_parts (has is_open a) (has is_open b) h in
        ap₂ (λ s q. where_holds (not (is_unary op) && is_number s && is_number q) number_sort) (closed_sort a i.0)
        (closed_sort b i.1)
    closed_sort (Negate a) h = ap (λ s. where_holds (is_number s) number_sort) (closed_sort a h)
    closed_sort (Lt a b) h =
        let i = or_parts (has is_open a) (has is_open b) h in
        ap₂ (λ s q. where_holds (is_number s && is_number q) truth_sort) (closed_sort a i.0) (closed_sort b i.1)
    closed_sort (Le a b) h =
        let i = or_parts (has is_open a) (has is_open b) h in
        ap₂ (λ s q. where_holds (is_number s && is_number q) truth_sort) (closed_sort a i.0) (closed_sort b i.1)
    closed_sort (Between low a high) h = ap (λ s. where_holds (is_number s) truth_sort) (closed_sort a h)
    closed_sort (Eq a b) h =
        let i = or_parts (has is_open a) (has is_open b) h in
        ap₂ (λ s q. where_holds (are_same s q) truth_sort) (closed_sort a i.0) (closed_sort b i.1)
    closed_sort (And a b) h =
        let i = or_parts (has is_open a) (has is_open b) h in
        ap₂ (λ s q. where_holds (is_truth s && is_truth q) truth_sort) (closed_sort a i.0) (closed_sort b i.1)
    closed_sort (Or a b) h =
        let i = or_parts (has is_open a) (has is_open b) h in
        ap₂ (λ s q. where_holds (is_truth s && is_truth q) truth_sort) (closed_sort a i.0) (closed_sort b i.1)
    closed_sort (Imp a b) h =
        let i = or_parts (has is_open a) (has is_open b) h in
        ap₂ (λ s q. where_holds (is_truth s && is_truth q) truth_sort) (closed_sort a i.0) (closed_sort b i.1)
    closed_sort (Not a) h = ap (λ s. where_holds (is_truth s) truth_sort) (closed_sort a h)
    closed_sort (If c a b) h =
        let p = or_parts (has is_open c || has is_open a) (has is_open b) h in
        let r = or_parts (has is_open c) (has is_open a) p.0 in
        ap (λ s. where_holds (is_truth s && are_same (sort_of g a) (sort_of g b)) (sort_of g a)) (closed_sort c r.0) ∙ ap₂
        (λ q w. where_holds (is_truth (sort_of g' c) && are_same q w) q) (closed_sort a r.1) (closed_sort b p.1)
    closed_sort (Padd t p n) h =
        let i = or_parts (has is_open p) (has is_open n) h in
        ap₂
        (λ s q.
        where_holds (is_object l t && is_word_of (address_width l.target) s && is_number q)
        (word_sort (address_width l.target)))
        (closed_sort p i.0) (closed_sort n i.1)
    closed_sort (At t p path) h =
        let q = or_parts (has is_open p) (path_has is_open path) h in
        ap₂
        (λ s q.
        where_holds (is_object l t && is_word_of (address_width l.target) s)
        (of_shape q (λ v. word_sort (address_width l.target))))
        (closed_sort p q.0) (closed_along path q.1 (shape_of l t))
    closed_sort (PtrOk t p) h =
        ap (λ s. where_holds (is_object l t && is_word_of (address_width l.target) s) truth_sort) (closed_sort p h)
    closed_sort _ h = absurd (true≢false h)

    pub closed_along : (path : Path) → path_has is_open path ≡ false → (s : Shape) → shape_along g path s ≡ shape_along g' path s
    closed_along Here h s = refl
    closed_along (IntoField k path) h s = field_along k path s (closed_along path h)
    closed_along (IntoElement e path) h s =
        let p = or_parts (has is_open e) (path_has is_open path) h in
        element_along e path s (closed_sort e p.0) (closed_along path p.1)

pub one_weaker : (t t' a a' : Bool) → (t ≡ false → t' ≡ false) → (a ≡ false → a' ≡ false) → (t || a) ≡ false → (t' || a') ≡ false
one_weaker t t' a a' i j h = let p = or_parts t a h in or_from t' a' (i p.0) (j p.1)

pub two_weaker : (t t' a a' b b' : Bool) → (t ≡ false → t' ≡ false) → (a ≡ false → a' ≡ false) → (b ≡ false → b' ≡ false) →
    ((t || a) || b) ≡ false → ((t' || a') || b') ≡ false
two_weaker t t' a a' b b' i j m h = one_weaker (t || a) (t' || a') b b' (one_weaker t t' a a' i j) m h

pub three_weaker : (t t' a a' b b' c c' : Bool) → (t ≡ false → t' ≡ false) → (a ≡ false → a' ≡ false) → (b ≡ false → b' ≡ false) →
    (c ≡ false → c' ≡ false) →
    (((t || a) || b) || c) ≡ false → (((t' || a') || b') || c') ≡ false
three_weaker t t' a a' b b' c c' i j m n h =
    one_weaker ((t || a) || b) ((t' || a') || b') c c' (two_weaker t t' a a' b b' i j m) n h

-- a test that is passed by less
module _ (u t : Exp → Bool) (k : (e : Exp) → u e ≡ false → t e ≡ false) where
  mutual
    pub weaker : (e : Exp) → has u e ≡ false → has t e ≡ false
    weaker (Var x) h = k (Var x) h
    weaker (WordLit w) h = k (WordLit w) h
    weaker (NumberLit n) h = k (NumberLit n) h
    weaker (TruthLit b) h = k (TruthLit b) h
    weaker (WordBinary op a b) h = two_weaker _ _ _ _ _ _ (k (WordBinary op a b)) (weaker a) (weaker b) h
    weaker (WordShift op a n) h = two_weaker _ _ _ _ _ _ (k (WordShift op a n)) (weaker a) (weaker n) h
    weaker (WordUnary op a) h = one_weaker _ _ _ _ (k (WordUnary op a)) (weaker a) h
    weaker (WordCompare op a b) h = two_weaker _ _ _ _ _ _ (k (WordCompare op a b)) (weaker a) (weaker b) h
    weaker (Cast op width a) h = one_weaker _ _ _ _ (k (Cast op width a)) (weaker a) h
    weaker (ToNat a) h = one_weaker _ _ _ _ (k (ToNat a)) (weaker a) h
    weaker (ToInt a) h = one_weaker _ _ _ _ (k (ToInt a)) (weaker a) h
    weaker (ToWord width a) h = one_weaker _ _ _ _ (k (ToWord width a)) (weaker a) h
    weaker (Arith op a b) h = two_weaker _ _ _ _ _ _ (k (Arith op a b)) (weaker a) (weaker b) h
    weaker (Negate a) h = one_weaker _ _ _ _ (k (Negate a)) (weaker a) h
    weaker (Lt a b) h = two_weaker _ _ _ _ _ _ (k (Lt a b)) (weaker a) (weaker b) h
    weaker (Le a b) h = two_weaker _ _ _ _ _ _ (k (Le a b)) (weaker a) (weaker b) h
    weaker (Between low a high) h = one_weaker _ _ _ _ (k (Between low a high)) (weaker a) h
    weaker (Eq a b) h = two_weaker _ _ _ _ _ _ (k (Eq a b)) (weaker a) (weaker b) h
    weaker (And a b) h = two_weaker _ _ _ _ _ _ (k (And a b)) (weaker a) (weaker b) h
    weaker (Or a b) h = two_weaker _ _ _ _ _ _ (k (Or a b)) (weaker a) (weaker b) h
    weaker (Imp a b) h = two_weaker _ _ _ _ _ _ (k (Imp a b)) (weaker a) (weaker b) h
    weaker (Not a) h = one_weaker _ _ _ _ (k (Not a)) (weaker a) h
    weaker (If c a b) h = three_weaker _ _ _ _ _ _ _ _ (k (If c a b)) (weaker c) (weaker a) (weaker b) h
    weaker (Padd ty p n) h = two_weaker _ _ _ _ _ _ (k (Padd ty p n)) (weaker p) (weaker n) h
    weaker (At ty p path) h = two_weaker _ _ _ _ _ _ (k (At ty p path)) (weaker p) (path_weaker path) h
    weaker (Load ty p path) h = two_weaker _ _ _ _ _ _ (k (Load ty p path)) (weaker p) (path_weaker path) h
    weaker (Read ty p path) h = two_weaker _ _ _ _ _ _ (k (Read ty p path)) (weaker p) (path_weaker path) h
    weaker (Tagged ty p) h = one_weaker _ _ _ _ (k (Tagged ty p)) (weaker p) h
    weaker (PtrOk ty p) h = one_weaker _ _ _ _ (k (PtrOk ty p)) (weaker p) h
    weaker (Global x path) h = one_weaker _ _ _ _ (k (Global x path)) (path_weaker path) h
    weaker (Sel e path) h = two_weaker _ _ _ _ _ _ (k (Sel e path)) (weaker e) (path_weaker path) h
    weaker (Upd e path v) h = three_weaker _ _ _ _ _ _ _ _ (k (Upd e path v)) (weaker e) (path_weaker path) (weaker v) h

    pub path_weaker : (path : Path) → path_has u path ≡ false → path_has t path ≡ false
    path_weaker Here h = h
    path_weaker (IntoField j path) h = path_weaker path h
    path_weaker (IntoElement e path) h = one_weaker _ _ _ _ (weaker e) (path_weaker path) h

-- of one of the four widths, or no word
abbrev pub IsGood : Sort → Type 0
IsGood (Of (WordSort n)) = is_width n ≡ true
IsGood (Of NumberSort) = Unit {0}
IsGood (Of TruthSort) = Unit {0}
IsGood (PartsSort t) = ⊥

number_good : (o : Sort) → number_sort ≡ Some o → IsGood o
number_good o h = subst IsGood (some_is (Of NumberSort) o h) tt

truth_good : (o : Sort) → truth_sort ≡ Some o → IsGood o
truth_good o h = subst IsGood (some_is (Of TruthSort) o h) tt

word_good : (n : ℕ) (o : Sort) → word_sort n ≡ Some o → is_width n ≡ true → IsGood o
word_good n o h w = subst IsGood (some_is (Of (WordSort n)) o h) w

address_good : (t : Target) → is_width (address_width t) ≡ true
address_good Ilp32 = refl
address_good Lp64 = refl

module _ (g : Scope) where
  abbrev l : Layout
  l = g.layout

  pub closed_good : (e : Exp) → has is_open e ≡ false → (o : Sort) → sort_of g e ≡ Some o → IsGood o
  closed_good (WordLit w) h o k =
      let j = where_inv (is_width w.width && nat_lt w.bits (2 ^ w.width)) (word_sort w.width) o k in
      word_good w.width o j.1 (and_parts (is_width w.width) (nat_lt w.bits (2 ^ w.width)) j.0).0
  closed_good (NumberLit n) h o k = number_good o k
  closed_good (TruthLit b) h o k = truth_good o k
  closed_good (WordBinary op a b) h o k =
      let p = or_parts (has is_open a) (has is_open b) h in
      let i = words_inv (word_width (sort_of g a)) (word_width (sort_of g b)) word_sort o k in
      word_good i.0 o i.3 (closed_good a p.0 (Of (WordSort i.0)) (width_inv (sort_of g a) i.0 i.1))
  closed_good (WordShift op a n) h o k =
      let p = or_parts (has is_open a) (has is_open n) h in
      let j = where_inv (is_number (sort_of g n)) (of_word (word_width (sort_of g a)) word_sort) o k in
      let i = word_inv (word_width (sort_of g a)) word_sort o j.1 in
      word_good i.0 o i.2 (closed_good a p.0 (Of (WordSort i.0)) (width_inv (sort_of g a) i.0 i.1))
  closed_good (WordUnary op a) h o k =
      let i = word_inv (word_width (sort_of g a)) word_sort o k in
      word_good i.0 o i.2 (closed_good a h (Of (WordSort i.0)) (width_inv (sort_of g a) i.0 i.1))
  closed_good (WordCompare op a b) h o k =
      truth_good o (words_inv (word_width (sort_of g a)) (word_width (sort_of g b)) (λ n. truth_sort) o k).3
  closed_good (Cast op width a) h o k =
      let i =
      word_inv (word_width (sort_of g a)) (λ from. where_holds (is_width width && cast_fits op from width) (word_sort width))
      o k in
      let j = where_inv (is_width width && cast_fits op i.0 width) (word_sort width) o i.2 in
      word_good width o j.1 (and_parts (is_width width) (cast_fits op i.0 width) j.0).0
  closed_good (ToNat a) h o k = number_good o (word_inv (word_width (sort_of g a)) (λ n. number_sort) o k).2
  closed_good (ToInt a) h o k = number_good o (word_inv (word_width (sort_of g a)) (λ n. number_sort) o k).2
  closed_good (ToWord width a) h o k =
      let j = where_inv (is_width width && is_number (sort_of g a)) (word_sort width) o k in
      word_good width o j.1 (and_parts (is_width width) (is_number (sort_of g a)) j.0).0
  closed_good (Arith op a b) h o k =
      number_good o (where_inv (not (is_unary op) && is_number (sort_of g a) && is_number (sort_of g b)) number_sort o k).1
  closed_good (Negate a) h o k = number_good o (where_inv (is_number (sort_of g a)) number_sort o k).1
  closed_good (Lt a b) h o k = truth_good o (where_inv (is_number (sort_of g a) && is_number (sort_of g b)) truth_sort o k).1
  closed_good (Le a b) h o k = truth_good o (where_inv (is_number (sort_of g a) && is_number (sort_of g b)) truth_sort o k).1
  closed_good (Between low a high) h o k = truth_good o (where_inv (is_number (sort_of g a)) truth_sort o k).1
  closed_good (Eq a b) h o k = truth_good o (where_inv (are_same (sort_of g a) (sort_of g b)) truth_sort o k).1
  closed_good (And a b) h o k = truth_good o (where_inv (is_truth (sort_of g a) && is_truth (sort_of g b)) truth_sort o k).1
  closed_good (Or a b) h o k = truth_good o (where_inv (is_truth (sort_of g a) && is_truth (sort_of g b)) truth_sort o k).1
  closed_good (Imp a b) h o k = truth_good o (where_inv (is_truth (sort_of g a) && is_truth (sort_of g b)) truth_sort o k).1
  closed_good (Not a) h o k = truth_good o (where_inv (is_truth (sort_of g a)) truth_sort o k).1
  closed_good (If c a b) h o k =
      let p = or_parts (has is_open c || has is_open a) (has is_open b) h in
      let r = or_parts (has is_open c) (has is_open a) p.0 in
      closed_good a r.1 o (where_inv (is_truth (sort_of g c) && are_same (sort_of g a) (sort_of g b)) (sort_of g a) o k).1
  closed_good (Padd t p n) h o k =
      word_good (address_width l.target) o
      (where_inv (is_object l t && is_word_of (address_width l.target) (sort_of g p) && is_number (sort_of g n))
      (word_sort (address_width l.target)) o k).1
      (address_good l.target)
  closed_good (At t p path) h o k =
      let j =
      where_inv (is_object l t && is_word_of (address_width l.target) (sort_of g p))
      (of_shape (shape_along g path (shape_of l t)) (λ s. word_sort (address_width l.target))) o k in
      word_good (address_width l.target) o
      (shape_inv (shape_along g path (shape_of l t)) (λ s. word_sort (address_width l.target)) o j.1).2 (address_good l.target)
  closed_good (PtrOk t p) h o k =
      truth_good o (where_inv (is_object l t && is_word_of (address_width l.target) (sort_of g p)) truth_sort o k).1
  closed_good _ h _ _ = absurd (true≢false h)
