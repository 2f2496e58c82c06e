-- What is known of the operands where an expression has a sort.
use Rattle.std.proofs.Common.{◌≡◌, ℕ, ◌==◌, Bool, true, false, Option, Some, None, refl, sym, ap}
use Rattle.std.proofs.lemmas.Bool.{eqb-true}
use Rattle.c_values.specs.Types.{CType}
use Rattle.c_values.specs.Layout.{Layout, Shape, shape_of}
use Rattle.c_values.specs.CodeSameType.{type_is}
use Rattle.expression_lang.specs.Sort.{Scalar, WordSort, NumberSort, TruthSort, Sort, Of, PartsSort, same_sort, word_width, is_word_of, is_number, is_truth, number_sort, truth_sort, where_holds, of_words, of_word, are_same, of_shape, of_type, parts_shape, scalar_sort}
use Rattle.expression_lang.proofs.SameScalars.{same_scalar_is}

pub where_inv : (b : Bool) (o : Option Sort) (r : Sort) → where_holds b o ≡ Some r → (b ≡ true) × (o ≡ Some r)
where_inv true o r h = (refl, h)
where_inv false o r h = absurd cc

pub words_inv : (a b : Option ℕ) (f : ℕ → Option Sort) (r : Sort) → of_words a b f ≡ Some r → (n : ℕ) × (a ≡ Some n) × (b ≡ Some n) × (f n ≡ Some r)
words_inv (Some m) (Some n) f r h =
    let p = where_inv (m == n) (f m) r h in
    (m, refl, ap (λ k. Some k) (sym (eqb-true m n p.0)), p.1)
words_inv None (Some n) f r h = absurd cc
words_inv _ _ f r h = absurd cc

pub word_inv : (a : Option ℕ) (f : ℕ → Option Sort) (r : Sort) → of_word a f ≡ Some r → (n : ℕ) × (a ≡ Some n) × (f n ≡ Some r)
word_inv (Some n) f r h = (n, refl, h)
word_inv None f r h = absurd cc

pub width_inv : (o : Option Sort) (n : ℕ) → word_width o ≡ Some n → o ≡ Some (Of (WordSort n))
width_inv (Some (Of (WordSort m))) n h = let e : m ≡ n = cc in ap (λ k. Some (Of (WordSort k))) e
width_inv _ n h = absurd cc

pub number_inv : (o : Option Sort) → is_number o ≡ true → o ≡ number_sort
number_inv (Some (Of NumberSort)) h = refl
number_inv _ h = absurd cc

pub truth_inv : (o : Option Sort) → is_truth o ≡ true → o ≡ truth_sort
truth_inv (Some (Of TruthSort)) h = refl
truth_inv _ h = absurd cc

pub word_of_inv : (n : ℕ) (o : Option Sort) → is_word_of n o ≡ true → o ≡ Some (Of (WordSort n))
word_of_inv n (Some (Of (WordSort m))) h = ap (λ k. Some (Of (WordSort k))) (eqb-true m n h)
word_of_inv n _ h = absurd cc

same_sort_is : (a b : Sort) → same_sort a b ≡ true → a ≡ b
same_sort_is (Of a) (Of b) h = ap (λ s. Of s) (same_scalar_is a b h)
same_sort_is (PartsSort t) (PartsSort u) h = ap (λ v. PartsSort v) (type_is t u h)
same_sort_is _ _ h = absurd cc

pub same_inv : (a b : Option Sort) → are_same a b ≡ true → (o : Sort) × (a ≡ Some o) × (b ≡ Some o)
same_inv (Some a) (Some b) h = (a, refl, ap (λ s. Some s) (sym (same_sort_is a b h)))
same_inv None (Some b) h = absurd cc
same_inv _ _ h = absurd cc

pub shape_inv : (o : Option Shape) (f : Shape → Option Sort) (r : Sort) → of_shape o f ≡ Some r → (q : Shape) × (o ≡ Some q) × (f q ≡ Some r)
shape_inv (Some q) f r h = (q, refl, h)
shape_inv None f r h = absurd cc

pub type_inv : (o : Option CType) (f : CType → Option Sort) (r : Sort) → of_type o f ≡ Some r → (t : CType) × (o ≡ Some t) × (f t ≡ Some r)
type_inv (Some t) f r h = (t, refl, h)
type_inv None f r h = absurd cc

pub parts_inv : (l : Layout) (o : Option Sort) (q : Shape) → parts_shape l o ≡ Some q → (t : CType) × (o ≡ Some (PartsSort t)) × (shape_of l t ≡ q)
parts_inv l (Some (PartsSort t)) q h = let e : shape_of l t ≡ q = cc in (t, refl, e)
parts_inv l _ q h = absurd cc

pub scalar_inv : (o : Option Scalar) (r : Sort) → scalar_sort o ≡ Some r → (s : Scalar) × (o ≡ Some s) × (Of s ≡ r)
scalar_inv None r h = absurd cc
scalar_inv (Some s) r h = let e : Of s ≡ r = cc in (s, refl, e)

pub some_is : (a b : Sort) → ◌≡◌ {A = Option Sort} (Some a) (Some b) → a ≡ b
some_is a b h = cc
