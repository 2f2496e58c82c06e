-- The tests of numbers, truth values and types are of equality.
use Rattle.std.proofs.Common.{◌≡◌, ℤ, Bool, true, false, refl, subst}
use Rattle.std.proofs.lemmas.Bool.{false≢true}
use Rattle.std.proofs.lemmas.Bool.Decides.{Decides-int_eq}
use Rattle.std.specs.Ordering.{int_eq}
use Rattle.c_values.specs.Types.{CType, same_type}
use Rattle.c_values.specs.Value.{same_truth}
use Rattle.c_values.specs.CodeSameType as Types

pub number_is : (m n : ℤ) → int_eq m n ≡ true → m ≡ n
number_is m n = (Decides-int_eq m n).0

pub is_number : (m n : ℤ) → m ≡ n → int_eq m n ≡ true
is_number m n = (Decides-int_eq m n).1

pub truth_is : (a b : Bool) → same_truth a b ≡ true → a ≡ b
truth_is true false h = absurd (false≢true h)
truth_is false true h = absurd (false≢true h)
truth_is _ _ _ = refl

pub is_truth : (a b : Bool) → a ≡ b → same_truth a b ≡ true
is_truth true b e = let P : Bool → Type 0 = λ x. same_truth true x ≡ true in subst P e refl
is_truth false b e = let P : Bool → Type 0 = λ x. same_truth false x ≡ true in subst P e refl

pub type_is : (t u : CType) → same_type t u ≡ true → t ≡ u
type_is = Types.type_is

pub is_type : (t u : CType) → t ≡ u → same_type t u ≡ true
is_type t u e = let P : CType → Type 0 = λ x. same_type t x ≡ true in subst P e (Types.same_type-refl t)
