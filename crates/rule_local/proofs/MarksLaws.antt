-- What bits of words say of sets.
use Rattle.std.proofs.Common.{◌≡◌, ◌≢◌, ◌<◌, ◌-◌, ◌*◌, ◌%◌, ◌^◌, ℕ, zero, suc, max, min, true, false, not, ◌&&◌, ◌||◌, refl, ap, ◌∙◌, arith}
use Rattle.std.specs.Int.{bit_at, bit_not, w64}
use Rattle.std.specs.Int.RustNames.{bit_or}
use Rattle.std.specs.Int.Bits.{bit_and}
use Rattle.std.proofs.lemmas.Nat.Bits.{bit_at-zero, bit_at_and, bit_at_or, bit_at_not, bit_at-lt, bit_at_set_same, bit_at_set_other}
use Rattle.rule_local.specs.CodeMarks.{is_one, is_marked}

some_is_one : (n : ℕ) → 0 < n → is_one n ≡ true
some_is_one zero h = absurd (omega arith)
some_is_one (suc n) h = refl

one_of_max : (a b : ℕ) → is_one (max a b) ≡ (is_one a || is_one b)
one_of_max zero b = let e : max zero b ≡ b = omega arith in ap is_one e
one_of_max (suc a) b = some_is_one (max (suc a) b) (omega arith)

one_of_min : (a b : ℕ) → is_one (min a b) ≡ (is_one a && is_one b)
one_of_min zero b = let e : min zero b ≡ zero = omega arith in ap is_one e
one_of_min (suc a) zero = let e : min (suc a) zero ≡ zero = omega arith in ap is_one e
one_of_min (suc a) (suc b) = some_is_one (min (suc a) (suc b)) (omega arith)

one_of_not : (a : ℕ) → a < 2 → is_one (1 - a) ≡ not (is_one a)
one_of_not zero h = refl
one_of_not (suc a) h = let none : 1 - suc a ≡ 0 = omega arith in ap is_one none

pub none_marked : (i : ℕ) → is_marked 0 i ≡ false
none_marked i = ap is_one (bit_at-zero i)

pub marked_or : (a b i : ℕ) → is_marked (bit_or a b) i ≡ (is_marked a i || is_marked b i)
marked_or a b i = ap is_one (bit_at_or a b i) ∙ one_of_max (bit_at a i) (bit_at b i)

pub marked_and : (a b i : ℕ) → is_marked (bit_and a b) i ≡ (is_marked a i && is_marked b i)
marked_and a b i = ap is_one (bit_at_and a b i) ∙ one_of_min (bit_at a i) (bit_at b i)

pub marked_but : (a b i : ℕ) → b < 2 ^ 64 → i < 64 → is_marked (bit_and (bit_not w64 b) a) i ≡ (not (is_marked b i) && is_marked a i)
marked_but a b i h k = marked_and (bit_not w64 b) a i ∙ ap (λ t. t && is_marked a i) (ap is_one (bit_at_not w64 b i h k) ∙ one_of_not (bit_at b i) (bit_at-lt b i))

pub marked_with : (n k : ℕ) → k < 64 → is_marked (bit_or n (1 * 2 ^ k % 2 ^ 64)) k ≡ true
marked_with n k h = ap is_one (bit_at_set_same w64 n k h)

pub marked_beside : (n k i : ℕ) → k < 64 → i ≢ k → is_marked (bit_or n (1 * 2 ^ k % 2 ^ 64)) i ≡ is_marked n i
marked_beside n k i h e = ap is_one (bit_at_set_other w64 n k h i e)
