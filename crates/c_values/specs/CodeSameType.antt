-- The test of types is of equality.
use Rattle.std.proofs.Common.{◌≡◌, ◌==◌, ℕ, true, cond, refl, sym, ap, ap₂, ◌∙◌, eqb-true, eq-eqb}
use Rattle.std.proofs.lemmas.Bool.{false≢true, and_parts, and_from}
use Rattle.std.proofs.lemmas.Bool.Decides.{same_from_decides}
use Rattle.std.proofs.lemmas.Slice.Eq.{bytes_eq-Decides}
use Rattle.std.specs.Bool.{Decides}
use Rattle.std.specs.Cmp.{IsEquivalence}
use Rattle.c_values.specs.Types.{CType, Integer, Void, Ptr, Struct, Array, IntType, Char, SChar, UChar, Short, UShort, Int, UInt, Long, ULong, LLong, ULLong, number_of, same_int_type, same_type}

int_of : ℕ → IntType
int_of n = cond (n == 0) Char (cond (n == 1) SChar (cond (n == 2) UChar (cond (n == 3) Short (cond (n == 4) UShort
    (cond (n == 5) Int (cond (n == 6) UInt (cond (n == 7) Long (cond (n == 8) ULong (cond (n == 9) LLong ULLong)))))))))

int_back : (i : IntType) → int_of (number_of i) ≡ i
unfolding int_of
int_back Char = refl
int_back SChar = refl
int_back UChar = refl
int_back Short = refl
int_back UShort = refl
int_back Int = refl
int_back UInt = refl
int_back Long = refl
int_back ULong = refl
int_back LLong = refl
int_back ULLong = refl

int_is : (i j : IntType) → same_int_type i j ≡ true → i ≡ j
int_is i j h = sym (int_back i) ∙ ap int_of (eqb-true (number_of i) (number_of j) h) ∙ int_back j

pub type_is : (t u : CType) → same_type t u ≡ true → t ≡ u
type_is (Integer i) (Integer j) h = ap Integer (int_is i j h)
type_is Void Void h = refl
type_is (Ptr t) (Ptr u) h = ap Ptr (type_is t u h)
type_is (Struct x) (Struct y) h = ap Struct ((bytes_eq-Decides x y).0 h)
type_is (Array t m) (Array u n) h =
    let p = and_parts (same_type t u) (m == n) h in
    ap₂ Array (type_is t u p.0) (eqb-true m n p.1)
type_is _ _ h = absurd (false≢true h)

pub same_type-refl : (t : CType) → same_type t t ≡ true
same_type-refl (Integer i) = eq-eqb (number_of i) (number_of i) refl
same_type-refl Void = refl
same_type-refl (Ptr t) = same_type-refl t
same_type-refl (Struct x) = (bytes_eq-Decides x x).1 refl
same_type-refl (Array t n) = and_from (same_type t t) (n == n) (same_type-refl t) (eq-eqb n n refl)

pub same_type-Decides : (t u : CType) → Decides (same_type t u) (t ≡ u)
same_type-Decides t u = (type_is t u, λ e. ap (same_type t) (sym e) ∙ same_type-refl t)

pub same_type-equiv : IsEquivalence same_type
same_type-equiv = record {
  refl = same_type-refl;
  symm = λ t u. same_from_decides (same_type t u) (same_type u t) (same_type-Decides t u) (λ h. sym (type_is u t h), λ e. (same_type-Decides u t).1 (sym e));
  congr = λ t u v h. ap (λ w. same_type w v) (type_is t u h);
}
