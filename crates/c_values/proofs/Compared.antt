-- Parts that are compared one after the other.
use Rattle.std.proofs.Common.{◌≡◌, ℕ, zero, suc, ◌<◌, ◌==◌, Bool, true, false, ◌&&◌, List, [], ◌∷◌, length, get_or, drop, refl, ap, ap₂, ◌∙◌, arith}
use Rattle.c_values.specs.declared.values.Value as V
use Rattle.c_values.specs.declared.value_equality.Comparison as C
use Rattle.c_values.specs.Value.{same_value, same_values}
use Rattle.c_values.specs.CodeValue.{value_of}
use Rattle.c_values.specs.CodeParts.{values_in, rank, ranks}
use Rattle.c_values.specs.CodeComparison.{IsSmaller}

pub rank_in : (xs : List V.Value) (k : ℕ) (x : V.Value) → k < length xs → x ≡ get_or xs k x → rank (value_of x) < ranks (values_in xs)
rank_in [] k x lt e = absurd (omega arith)
rank_in (y ∷ ys) zero x lt e = let same = ap (λ z. rank (value_of z)) e in omega (arith, same)
rank_in (y ∷ ys) (suc k) x lt e = let h = rank_in ys k x (omega arith) e in omega (arith, h)

pub smaller_than : (c : C.Comparison) (m n : ℕ) → IsSmaller m c → m < n → IsSmaller n c
smaller_than (C.TheVariants.AsLast x y) m n h lt = omega (arith, h, lt)
smaller_than _ _ _ _ _ = tt

pub some_there : (n : ℕ) (b : Bool) → b ≡ (n == 0) → b ≡ false → 0 < n
some_there zero b e f = absurd cc
some_there (suc n) b e f = omega arith

and_true : (b : Bool) → b ≡ (b && true)
and_true true = refl
and_true false = refl

-- the last of both
pub last_pair : (xs ys : List V.Value) (k : ℕ) (x y : V.Value) → suc k ≡ length xs → length xs ≡ length ys → x ≡ get_or xs k x → y ≡ get_or ys k y →
    same_value (value_of x) (value_of y) ≡ same_values (values_in (drop k xs)) (values_in (drop k ys))
last_pair [] ys k x y len same e f = absurd (omega arith)
last_pair (a ∷ as') [] k x y len same e f = absurd (omega arith)
last_pair (a ∷ []) (b ∷ []) zero x y len same e f = ap₂ (λ v w. same_value (value_of v) (value_of w)) e f ∙ and_true (same_value (value_of a) (value_of b))
last_pair (a ∷ []) (b ∷ c ∷ cs) zero x y len same e f = absurd (omega arith)
last_pair (a ∷ c ∷ cs) (b ∷ bs) zero x y len same e f = absurd (omega arith)
last_pair (a ∷ as') (b ∷ bs) (suc k) x y len same e f = last_pair as' bs k x y (omega arith) (omega arith) e f
