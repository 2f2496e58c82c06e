-- The children of a well-sorted expression are well-sorted.
use Rattle.std.proofs.Common.{◌≡◌, ℕ, Bool, true, false, not, cond, ◌&&◌, List, [], ◌∷◌, ◌++◌, Option, Some, None, refl}
use Rattle.std.proofs.lemmas.Bool.{and_parts}
use Rattle.c_values.specs.Types.{CType, address_width}
use Rattle.c_values.specs.Layout.{Shape, Record, Row, shape_of, is_object}
use Rattle.c_values.specs.Path.{Spot, member_spot}
use Rattle.expression_lang.specs.Expression.{Exp, WordBinary, WordShift, WordUnary, WordCompare, Cast, ToNat, ToInt, ToWord, Arith, Negate, Lt, Le, Between, Eq, And, Or, Imp, Not, If, Padd, At, Load, Read, Tagged, PtrOk, Global, Sel, Upd, Path, Here, IntoField, IntoElement}
use Rattle.expression_lang.specs.Sort.{Sort, Of, WordSort, Scope, sort_of, shape_along, shape_in, sort_at, is_width, word_width, word_sort, is_word_of, is_number, is_truth, is_unary, is_one_step, cast_fits, number_sort, truth_sort, where_holds, of_words, of_word, are_same, of_shape, parts_shape}
use Rattle.expression_lang.proofs.Inversion.{where_inv, words_inv, word_inv, width_inv, number_inv, truth_inv, word_of_inv, same_inv, shape_inv, type_inv, parts_inv}
use Rattle.ac_expr.specs.Heads.{children, path_children}

abbrev pub IsSorted : Scope → Exp → Type 0
IsSorted g e = (o : Sort) × (sort_of g e ≡ Some o)

abbrev pub AreSorted : Scope → List Exp → Type 0
AreSorted g [] = Unit {0}
AreSorted g (e ∷ es) = IsSorted g e × AreSorted g es

pub all_sorted_before : (g : Scope) (es fs : List Exp) → AreSorted g es → AreSorted g fs → AreSorted g (es ++ fs)
all_sorted_before g [] fs h k = k
all_sorted_before g (e ∷ es) fs h k = (h.0, all_sorted_before g es fs h.1 k)

module _ (g : Scope) where
  one : (a : Exp) → IsSorted g a → AreSorted g (a ∷ [])
  one a h = (h, tt)

  two : (a b : Exp) → IsSorted g a → IsSorted g b → AreSorted g (a ∷ b ∷ [])
  two a b h k = (h, (k, tt))

  -- a word of some width
  is_a_word : (e : Exp) (n : ℕ) → word_width (sort_of g e) ≡ Some n → IsSorted g e
  is_a_word e n h = (Of (WordSort n), width_inv (sort_of g e) n h)

  is_a_number : (e : Exp) → is_number (sort_of g e) ≡ true → IsSorted g e
  is_a_number e h = (_, number_inv (sort_of g e) h)

  is_a_truth : (e : Exp) → is_truth (sort_of g e) ≡ true → IsSorted g e
  is_a_truth e h = (_, truth_inv (sort_of g e) h)

  is_a_pointer : (e : Exp) → is_word_of (address_width g.layout.target) (sort_of g e) ≡ true → IsSorted g e
  is_a_pointer e h = (_, word_of_inv (address_width g.layout.target) (sort_of g e) h)

  two_words : (a b : Exp) (f : ℕ → Option Sort) (o : Sort) → of_words (word_width (sort_of g a)) (word_width (sort_of g b)) f ≡ Some o → AreSorted g (a ∷ b ∷ [])
  two_words a b f o h = let i = words_inv (word_width (sort_of g a)) (word_width (sort_of g b)) f o h in two a b (is_a_word a i.0 i.1) (is_a_word b i.0 i.2)

  one_word : (a : Exp) (f : ℕ → Option Sort) (o : Sort) → of_word (word_width (sort_of g a)) f ≡ Some o → AreSorted g (a ∷ [])
  one_word a f o h = let i = word_inv (word_width (sort_of g a)) f o h in (is_a_word a i.0 i.1, tt)

  two_numbers : (a b : Exp) (q o : Sort) → where_holds (is_number (sort_of g a) && is_number (sort_of g b)) (Some q) ≡ Some o → AreSorted g (a ∷ b ∷ [])
  two_numbers a b q o h =
      let i = where_inv (is_number (sort_of g a) && is_number (sort_of g b)) (Some q) o h in
      let j = and_parts (is_number (sort_of g a)) (is_number (sort_of g b)) i.0 in two a b (is_a_number a j.0) (is_a_number b j.1)

  two_truths : (a b : Exp) (q o : Sort) → where_holds (is_truth (sort_of g a) && is_truth (sort_of g b)) (Some q) ≡ Some o → AreSorted g (a ∷ b ∷ [])
  two_truths a b q o h =
      let i = where_inv (is_truth (sort_of g a) && is_truth (sort_of g b)) (Some q) o h in
      let j = and_parts (is_truth (sort_of g a)) (is_truth (sort_of g b)) i.0 in two a b (is_a_truth a j.0) (is_a_truth b j.1)

  a_root : (t : CType) (a : Exp) (q : Option Sort) (o : Sort) → where_holds (is_object g.layout t && is_word_of (address_width g.layout.target) (sort_of g a)) q ≡ Some o → IsSorted g a × (q ≡ Some o)
  a_root t a q o h =
      let i = where_inv (is_object g.layout t && is_word_of (address_width g.layout.target) (sort_of g a)) q o h in
      (is_a_pointer a (and_parts (is_object g.layout t) (is_word_of (address_width g.layout.target) (sort_of g a)) i.0).1, i.1)

  by_member : (k : Shape → Option Shape) (path : Path) (o : Option Spot) (q : Shape) → shape_in o k ≡ Some q → ((r : Shape) → k r ≡ Some q → AreSorted g (path_children path)) → AreSorted g (path_children path)
  by_member k path None q h f = absurd cc
  by_member k path (Some r) q h f = f r.shape h

  by_element : (e : Exp) (path : Path) (o : Option Shape) (b : Bool) (q : Shape) → is_number (sort_of g e) ≡ b → cond b o None ≡ Some q → (o ≡ Some q → AreSorted g (path_children path)) → AreSorted g (e ∷ path_children path)
  by_element e path o true q i h f = (is_a_number e i, f h)
  by_element e path o false q i h f = absurd cc

  pub path_sorted : (path : Path) (s q : Shape) → shape_along g path s ≡ Some q → AreSorted g (path_children path)
  path_sorted Here s q h = tt
  path_sorted (IntoField k path) (Record x n align fs) q h = by_member (λ r. shape_along g path r) path (member_spot fs k) q h (λ r i. path_sorted path r q i)
  path_sorted (IntoElement e path) (Row r n) q h = by_element e path (shape_along g path r) (is_number (sort_of g e)) q refl h (λ i. path_sorted path r q i)
  path_sorted _ _ q h = absurd cc

  at_end : (path : Path) (s : Shape) (f : Shape → Option Sort) (o : Sort) → of_shape (shape_along g path s) f ≡ Some o → AreSorted g (path_children path)
  at_end path s f o h = let i = shape_inv (shape_along g path s) f o h in path_sorted path s i.0 i.1

  pub children_sorted : (e : Exp) → IsSorted g e → AreSorted g (children e)
  children_sorted (WordBinary op a b) h = two_words a b word_sort h.0 h.1
  children_sorted (WordShift op a n) h =
      let i = where_inv (is_number (sort_of g n)) (of_word (word_width (sort_of g a)) word_sort) h.0 h.1 in
      two a n (one_word a word_sort h.0 i.1).0 (is_a_number n i.0)
  children_sorted (WordUnary op a) h = one_word a word_sort h.0 h.1
  children_sorted (WordCompare op a b) h = two_words a b (λ n. truth_sort) h.0 h.1
  children_sorted (Cast op width a) h = one_word a (λ from. where_holds (is_width width && cast_fits op from width) (word_sort width)) h.0 h.1
  children_sorted (ToNat a) h = one_word a (λ n. number_sort) h.0 h.1
  children_sorted (ToInt a) h = one_word a (λ n. number_sort) h.0 h.1
  children_sorted (ToWord width a) h =
      let i = where_inv (is_width width && is_number (sort_of g a)) (word_sort width) h.0 h.1 in
      (is_a_number a (and_parts (is_width width) (is_number (sort_of g a)) i.0).1, tt)
  children_sorted (Arith op a b) h =
      let i = where_inv (not (is_unary op) && is_number (sort_of g a) && is_number (sort_of g b)) number_sort h.0 h.1 in
      let j = and_parts (not (is_unary op) && is_number (sort_of g a)) (is_number (sort_of g b)) i.0 in
      let k = and_parts (not (is_unary op)) (is_number (sort_of g a)) j.0 in two a b (is_a_number a k.1) (is_a_number b j.1)
  children_sorted (Negate a) h = let i = where_inv (is_number (sort_of g a)) number_sort h.0 h.1 in (is_a_number a i.0, tt)
  children_sorted (Lt a b) h = two_numbers a b _ h.0 h.1
  children_sorted (Le a b) h = two_numbers a b _ h.0 h.1
  children_sorted (Between low a high) h = let i = where_inv (is_number (sort_of g a)) truth_sort h.0 h.1 in (is_a_number a i.0, tt)
  children_sorted (Eq a b) h =
      let i = where_inv (are_same (sort_of g a) (sort_of g b)) truth_sort h.0 h.1 in
      let j = same_inv (sort_of g a) (sort_of g b) i.0 in two a b (j.0, j.1) (j.0, j.2)
  children_sorted (And a b) h = two_truths a b _ h.0 h.1
  children_sorted (Or a b) h = two_truths a b _ h.0 h.1
  children_sorted (Imp a b) h = two_truths a b _ h.0 h.1
  children_sorted (Not a) h = let i = where_inv (is_truth (sort_of g a)) truth_sort h.0 h.1 in (is_a_truth a i.0, tt)
  children_sorted (If c a b) h =
      let i = where_inv (is_truth (sort_of g c) && are_same (sort_of g a) (sort_of g b)) (sort_of g a) h.0 h.1 in
      let j = and_parts (is_truth (sort_of g c)) (are_same (sort_of g a) (sort_of g b)) i.0 in
      let k = same_inv (sort_of g a) (sort_of g b) j.1 in (is_a_truth c j.0, two a b (k.0, k.1) (k.0, k.2))
  children_sorted (Padd t p n) h =
      let i = where_inv (is_object g.layout t && is_word_of (address_width g.layout.target) (sort_of g p) && is_number (sort_of g n)) (word_sort (address_width g.layout.target)) h.0 h.1 in
      let j = and_parts (is_object g.layout t && is_word_of (address_width g.layout.target) (sort_of g p)) (is_number (sort_of g n)) i.0 in
      two p n (is_a_pointer p (and_parts (is_object g.layout t) (is_word_of (address_width g.layout.target) (sort_of g p)) j.0).1) (is_a_number n j.1)
  children_sorted (At t p path) h =
      let i = a_root t p (of_shape (shape_along g path (shape_of g.layout t)) (λ s. word_sort (address_width g.layout.target))) h.0 h.1 in
      (i.0, at_end path (shape_of g.layout t) (λ s. word_sort (address_width g.layout.target)) h.0 i.1)
  children_sorted (Load t p path) h =
      let i = a_root t p (of_shape (shape_along g path (shape_of g.layout t)) sort_at) h.0 h.1 in (i.0, at_end path (shape_of g.layout t) sort_at h.0 i.1)
  children_sorted (Read t p path) h =
      let i = a_root t p (of_shape (shape_along g path (shape_of g.layout t)) sort_at) h.0 h.1 in (i.0, at_end path (shape_of g.layout t) sort_at h.0 i.1)
  children_sorted (Tagged t p) h = ((a_root t p truth_sort h.0 h.1).0, tt)
  children_sorted (PtrOk t p) h = ((a_root t p truth_sort h.0 h.1).0, tt)
  children_sorted (Global x path) h =
      let i = type_inv (g.globals x) (λ t. where_holds (is_object g.layout t) (of_shape (shape_along g path (shape_of g.layout t)) sort_at)) h.0 h.1 in
      let j = where_inv (is_object g.layout i.0) (of_shape (shape_along g path (shape_of g.layout i.0)) sort_at) h.0 i.2 in
      at_end path (shape_of g.layout i.0) sort_at h.0 j.1
  children_sorted (Sel e path) h =
      let i = where_inv (is_one_step path) (of_shape (parts_shape g.layout (sort_of g e)) (λ s. of_shape (shape_along g path s) sort_at)) h.0 h.1 in
      let j = shape_inv (parts_shape g.layout (sort_of g e)) (λ s. of_shape (shape_along g path s) sort_at) h.0 i.1 in
      let k = parts_inv g.layout (sort_of g e) j.0 j.1 in ((_, k.1), at_end path j.0 sort_at h.0 j.2)
  children_sorted (Upd e path v) h =
      let j = shape_inv (parts_shape g.layout (sort_of g e)) (λ s. of_shape (shape_along g path s) (λ q. where_holds (are_same (sort_at q) (sort_of g v)) (sort_of g e))) h.0 h.1 in
      let k = parts_inv g.layout (sort_of g e) j.0 j.1 in
      let m = shape_inv (shape_along g path j.0) (λ q. where_holds (are_same (sort_at q) (sort_of g v)) (sort_of g e)) h.0 j.2 in
      let w = where_inv (are_same (sort_at m.0) (sort_of g v)) (sort_of g e) h.0 m.2 in
      let r = same_inv (sort_at m.0) (sort_of g v) w.0 in
      ((_, k.1), all_sorted_before g (path_children path) (v ∷ []) (path_sorted path j.0 m.0 m.1) ((r.0, r.2), tt))
  children_sorted _ _ = tt
