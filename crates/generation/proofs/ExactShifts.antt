-- The conditions of shifts: the count is from 0 to the width, less one, and a signed value that is shifted left isn't
-- negative and is at most the greatest of its type, divided by the power of two.
use Rattle.std.proofs.Common.{◌≡◌, ℕ, zero, suc, ◌-◌, ◌*◌, ◌/◌, ◌^◌, ◌<◌, ◌≤◌, Bool, true, false, not, ◌&&◌, ◌||◌, leb, [], ◌∷◌, Some, None, Ok, cond, ℤ, pos, negsuc, neg_ℤ, ◌*ℤ◌, int_le, int_lt, refl, sym, ap, ap₂, ◌∙◌, subst, arith, le_trans, div-le_self, leb-true, le-leb}
use native.Mathlib.Nat.{le-div_iff_mul-le}
use Rattle.std.proofs.lemmas.Nat.{pow_pos}
use Rattle.std.proofs.lemmas.Bool.{and_parts, and_from, cond-true}
use Rattle.std.proofs.lemmas.Bool.Decides.{nat_tests, same_from_decides}
use Rattle.std.specs.Prelude.{Decides}
use Rattle.std.specs.Int.{int_div_euclid}
use Rattle.c_values.specs.Types.{IntType, width_of, is_signed}
use Rattle.c_values.specs.Number.{is_between, least, greatest, is_of_type, greatest_of}
use Rattle.c_values.specs.Word.{unsigned, signed, word, is_shift, power_of_two, word_shift, Wshl, Wushr, Wsshr}
use Rattle.c_values.specs.Value.{Value, Bits, word_in, number_in}
use Rattle.c_values.specs.Layout.{Layout}
use Rattle.c_values.specs.Path.{IsBits}
use Rattle.c_values.proofs.WordValues.{IsSigned, low, high, signed_of, signed-word}
use Rattle.c_values.proofs.Widths.{some_width}
use Rattle.expression_lang.specs.Evaluation.{Env, State, holds}
use Rattle.expression_lang.specs.Evaluation as E
use Rattle.expression_lang.specs.Expression as X
use Rattle.expression_lang.specs.GuardKind as K
use Rattle.expression_lang.proofs.Fine.{bits_word}
use Rattle.c_lang.specs.Typed as C
use Rattle.c_meaning.specs.CValue.{unless, value_at, number_at, shifted}
use Rattle.generation.specs.Guards.{when, word_of, shifts, shift}
use Rattle.generation.specs.Refused.{refused}
use Rattle.generation.proofs.ExactValue.{Same}
use Rattle.generation.proofs.FirstRefused.{same_unless}
use Rattle.generation.proofs.ExactNumbers.{number_by, word_at}

count_in_range : (w m : ℕ) → 1 ≤ w → is_between (pos 0) (pos m) (pos (w - 1)) ≡ is_shift w (pos m)
count_in_range w m h = grind (arith, nat_tests)

pub shift_range : (w : ℕ) (z : ℤ) → 1 ≤ w → is_between (pos 0) z (pos (w - 1)) ≡ is_shift w z
shift_range w (pos m) h = count_in_range w m h
shift_range w (negsuc m) h = refl

-- a signed value that isn't negative is the unsigned one
not_negative : (width bits : ℕ) (n : ℤ) → IsSigned width bits n → int_le (pos 0) n ≡ true → n ≡ pos bits
not_negative width bits n (low h) e = refl
not_negative width bits n (high h k) e = absurd cc

-- ---- a product with a power of two is of the type where the number is at most a quotient

low_enough : (h y : ℕ) → int_le (neg_ℤ (pos h)) (pos y) ≡ true
low_enough zero y = grind arith
low_enough (suc h) y = refl

product_decides : (x p g : ℕ) → 0 < p → Decides (leb (x * p) g) (x * p ≤ g)
product_decides x p g h = (leb-true (x * p) g, le-leb (x * p) g)

quotient_decides : (x p g : ℕ) → 0 < p → Decides (leb x g && leb x (g / p)) (x * p ≤ g)
quotient_decides x p g h = (
  (λ e. (le-div_iff_mul-le {k = p} {x = x} {y = g} h).0 (leb-true x (g / p) (and_parts (leb x g) (leb x (g / p)) e).1)),
  (λ e. let k : x ≤ g / p = (le-div_iff_mul-le {k = p} {x = x} {y = g} h).1 e in and_from (leb x g) (leb x (g / p)) (le-leb x g (le_trans k (div-le_self g p))) (le-leb x (g / p) k)),
)

and_true : (a b : Bool) → a ≡ true → (a && b) ≡ b
and_true true b h = refl
and_true false b h = absurd cc

from_zero : (x : ℕ) → int_le (pos 0) (pos x) ≡ true
from_zero x = grind arith

product_of_type : (h x p g : ℕ) → 0 < p → (int_le (pos 0) (pos x) && is_between (neg_ℤ (pos h)) (pos x *ℤ pos p) (pos g)) ≡ (is_between (pos 0) (pos x) (pos g) && int_le (pos x) (pos (g / p)))
product_of_type h x p g k =
    and_true (int_le (pos 0) (pos x)) (is_between (neg_ℤ (pos h)) (pos x *ℤ pos p) (pos g)) (from_zero x)
    ∙ and_true (int_le (neg_ℤ (pos h)) (pos (x * p))) (leb (x * p) g) (low_enough h (x * p))
    ∙ same_from_decides (leb (x * p) g) (leb x g && leb x (g / p)) (product_decides x p g k) (quotient_decides x p g k)
    ∙ ap (λ b. b && leb x (g / p)) (sym (and_true (int_le (pos 0) (pos x)) (leb x g) (from_zero x)))

pub shift_fits : (h p g : ℕ) (a : ℤ) → 0 < p → (int_le (pos 0) a && is_between (neg_ℤ (pos h)) (a *ℤ pos p) (pos g)) ≡ (is_between (pos 0) a (pos g) && int_le a (pos (g / p)))
shift_fits h p g (pos x) k = product_of_type h x p g k
shift_fits h p g (negsuc x) k = refl

-- ---- the greatest number of a type, shifted to the right

greatest_between : (h m : ℕ) → 0 < h → m ≤ h - 1 → is_between (neg_ℤ (pos h)) (pos m) (pos (h - 1)) ≡ true
greatest_between h m k e = let lt = low_enough h m in and_from (int_le (neg_ℤ (pos h)) (pos m)) (leb m (h - 1)) lt (le-leb m (h - 1) e)

module _ (w m : ℕ) (some : 1 ≤ w) (count : is_shift w (pos m) ≡ true) where
  greatest_shifted : signed (word_shift Wsshr (word w (pos (2 ^ (w - 1) - 1))) (pos m)) ≡ pos ((2 ^ (w - 1) - 1) / 2 ^ m)
  greatest_shifted =
      ap signed (cond-true (is_shift w (pos m)) (word w (int_div_euclid (signed (word w (pos (2 ^ (w - 1) - 1)))) (pos (2 ^ m)))) _ count)
      ∙ ap (λ n. signed (word w (int_div_euclid n (pos (2 ^ m))))) (signed-word w (pos (2 ^ (w - 1) - 1)) some (greatest_between (2 ^ (w - 1)) (2 ^ (w - 1) - 1) (pow_pos (w - 1)) (omega arith)))
      ∙ signed-word w (pos ((2 ^ (w - 1) - 1) / 2 ^ m)) some (greatest_between (2 ^ (w - 1)) ((2 ^ (w - 1) - 1) / 2 ^ m) (pow_pos (w - 1)) (div-le_self (2 ^ (w - 1) - 1) (2 ^ m)))

-- two conditions of one kind
same_twice : {A : Type 0} (l : Layout) (env : Env) (s : State) (b c : Bool) (k : K.GuardKind) (e f : X.Exp) (a : A) (Q : A → Type 0) → holds l env s e ≡ b → holds l env s f ≡ c →
    ((b && c) ≡ true → Q a) → Same (unless (b && c) k (Ok a)) (refused l env s (when k e ∷ when k f ∷ [])) Q
same_twice l env s b c k e f a Q h i q = subst (λ x. Same (unless (b && c) k (Ok a)) (cond x (cond (holds l env s f) None (Some k)) (Some k)) Q) (sym h) (subst (λ y. Same (unless (b && c) k (Ok a)) (cond b (cond y None (Some k)) (Some k)) Q) (sym i) (by_case b c q))
  where
    by_case : (b c : Bool) → ((b && c) ≡ true → Q a) → Same (unless (b && c) k (Ok a)) (cond b (cond c None (Some k)) (Some k)) Q
    by_case true true q = (refl, q refl)
    by_case _ _ _ = refl

is_natural : (w : ℕ) (z : ℤ) → is_shift w z ≡ true → (m : ℕ) × (z ≡ pos m)
is_natural w (pos m) h = (m, refl)
is_natural w (negsuc m) h = absurd cc

module _ (l : Layout) (env : Env) (s : State) (w : ℕ) (some : 1 ≤ w) (e f : X.Exp) (v : Value) (h : E.value l env s e ≡ v) (p : IsBits w v) where
  in_width : (z : ℤ) → is_shift w z ≡ true → is_shift (word_in v).width z ≡ true
  in_width z c = subst (λ n. is_shift n z ≡ true) (sym (bits_word w v p).has_width) c

  count_holds : (z : ℤ) → number_in (E.value l env s f) ≡ z → holds l env s (X.Between (pos 0) f (pos (w - 1))) ≡ is_shift w z
  count_holds z k = ap (λ n. is_between (pos 0) n (pos (w - 1))) k ∙ shift_range w z some

  left_value : (b : Bool) (z : ℤ) → number_in (E.value l env s f) ≡ z → is_shift w z ≡ true → unsigned (word_in v) ≡ number_by b (word_in v) →
      E.value l env s (X.WordShift Wshl e f) ≡ Bits (word w (number_by b (word_in v) *ℤ power_of_two z))
  left_value b z k c same =
      let a = word_in v in
      ap₂ (λ x y. Bits (word_shift Wshl (word_in x) y)) h k
      ∙ ap Bits (cond-true (is_shift a.width z) (word a.width (unsigned a *ℤ power_of_two z)) (word a.width (pos 0)) (in_width z c))
      ∙ ap (λ n. Bits (word a.width (n *ℤ power_of_two z))) same
      ∙ ap Bits (word_at w a (number_by b a *ℤ power_of_two z) (bits_word w v p))

  right_value : (b : Bool) (z : ℤ) → number_in (E.value l env s f) ≡ z → is_shift w z ≡ true →
      E.value l env s (cond b (X.WordShift Wsshr e f) (X.WordShift Wushr e f)) ≡ Bits (word w (int_div_euclid (number_by b (word_in v)) (power_of_two z)))
  right_value true z k c =
      let a = word_in v in
      ap₂ (λ x y. Bits (word_shift Wsshr (word_in x) y)) h k
      ∙ ap Bits (cond-true (is_shift a.width z) (word a.width (int_div_euclid (signed a) (power_of_two z))) (word a.width (cond (int_lt (signed a) (pos 0)) (negsuc 0) (pos 0))) (in_width z c))
      ∙ ap Bits (word_at w a (int_div_euclid (signed a) (power_of_two z)) (bits_word w v p))
  right_value false z k c =
      let a = word_in v in
      ap₂ (λ x y. Bits (word_shift Wushr (word_in x) y)) h k
      ∙ ap Bits (cond-true (is_shift a.width z) (word a.width (int_div_euclid (unsigned a) (power_of_two z))) (word a.width (pos 0)) (in_width z c))
      ∙ ap Bits (word_at w a (int_div_euclid (unsigned a) (power_of_two z)) (bits_word w v p))

  -- what is shifted left, after the count
  left_fits : (b : Bool) (z : ℤ) → number_in (E.value l env s f) ≡ z → is_shift w z ≡ true →
      Same (unless (not b || (int_le (pos 0) (number_by b (word_in v)) && is_between (least b w) (number_by b (word_in v) *ℤ power_of_two z) (greatest b w))) K.Shift (Ok (Bits (word w (number_by b (word_in v) *ℤ power_of_two z)))))
      (refused l env s (cond b (when K.Shift (X.Between (pos 0) (X.ToInt e) (greatest b w)) ∷ when K.Shift (X.Le (X.ToInt e) (X.ToInt (X.WordShift Wsshr (X.WordLit (word w (greatest b w))) f))) ∷ []) []))
      (λ u. E.value l env s (X.WordShift Wshl e f) ≡ u)
  left_fits false z k c = (refl, left_value false z k c refl)
  left_fits true (negsuc m) k c = absurd cc
  left_fits true (pos m) k c =
      let a = word_in v in
      let top = 2 ^ (w - 1) - 1 in
      let u = Bits (word w (signed a *ℤ power_of_two (pos m))) in
      let b = is_between (pos 0) (signed a) (pos top) in
      let t = int_le (signed a) (pos (top / 2 ^ m)) in
      subst (λ x. Same (unless x K.Shift (Ok u)) (refused l env s (when K.Shift (X.Between (pos 0) (X.ToInt e) (pos top)) ∷ when K.Shift (X.Le (X.ToInt e) (X.ToInt (X.WordShift Wsshr (X.WordLit (word w (pos top))) f))) ∷ [])) (λ r. E.value l env s (X.WordShift Wshl e f) ≡ r))
      (sym (shift_fits (2 ^ (w - 1)) (2 ^ m) top (signed a) (pow_pos m)))
      (same_twice l env s b t K.Shift (X.Between (pos 0) (X.ToInt e) (pos top)) (X.Le (X.ToInt e) (X.ToInt (X.WordShift Wsshr (X.WordLit (word w (pos top))) f))) u (λ r. E.value l env s (X.WordShift Wshl e f) ≡ r)
      (ap (λ x. is_between (pos 0) (signed (word_in x)) (pos top)) h)
      (ap₂ (λ x y. int_le (signed (word_in x)) (signed (word_shift Wsshr (word w (pos top)) y))) h k ∙ ap (int_le (signed a)) (greatest_shifted w m some c))
      (λ both. left_value true (pos m) k c (sym (not_negative w a.bits (signed a) (signed_of w a (bits_word w v p)) (and_parts (int_le (pos 0) (signed a)) (int_le (signed a) (pos top)) (and_parts b t both).0).0))))

pub shifts_exact : (l : Layout) (env : Env) (s : State) (i : IntType) (d : C.Direction) (e f : X.Exp) (v : Value) (z : ℤ) → E.value l env s e ≡ v → IsBits (width_of l.target i) v →
    number_in (E.value l env s f) ≡ z → Same (shifted l i d (number_at i v) z) (refused l env s (shifts l.target i d e f)) (λ u. E.value l env s (shift i d e f) ≡ u)
shifts_exact l env s i C.Left e f v z h p k =
    let w = width_of l.target i in
    same_unless l env s (is_shift w z) K.Shift (X.Between (pos 0) f (pos (w - 1)))
    (cond (is_signed i) (when K.Shift (X.Between (pos 0) (X.ToInt e) (greatest_of l.target i)) ∷ when K.Shift (X.Le (X.ToInt e) (X.ToInt (X.WordShift Wsshr (word_of l.target i (greatest_of l.target i)) f))) ∷ []) [])
    (unless (not (is_signed i) || (int_le (pos 0) (number_at i v) && is_of_type l.target i (number_at i v *ℤ power_of_two z))) K.Shift (Ok (value_at l i (number_at i v *ℤ power_of_two z))))
    (λ u. E.value l env s (shift i C.Left e f) ≡ u) (count_holds l env s w (some_width l.target i) e f v h p z k)
    (λ c. left_fits l env s w (some_width l.target i) e f v h p (is_signed i) z k c)
shifts_exact l env s i C.Right e f v z h p k =
    let w = width_of l.target i in
    same_unless l env s (is_shift w z) K.Shift (X.Between (pos 0) f (pos (w - 1))) [] (Ok (value_at l i (int_div_euclid (number_at i v) (power_of_two z))))
    (λ u. E.value l env s (shift i C.Right e f) ≡ u) (count_holds l env s w (some_width l.target i) e f v h p z k)
    (λ c. (refl, right_value l env s w (some_width l.target i) e f v h p (is_signed i) z k c))
