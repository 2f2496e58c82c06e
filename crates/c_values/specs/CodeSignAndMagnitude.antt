-- A number by its sign and its magnitude.
use Rattle.std.specs.Prelude.{◌≡◌, ℕ, zero, suc, ◌<◌, Bool, true, false, ℤ, pos, negsuc, neg_ℤ, if◌then◌else◌, refl}
use Rattle.std.proofs.Common.{arith}
use Rattle.c_values.specs.declared.numbers.Number.TheInside.{Inside}

abbrev pub inside_of : ℤ → Inside
inside_of (pos n) = record { negative = false; magnitude = n }
inside_of (negsuc n) = record { negative = true; magnitude = suc n }

same_parts : (negative : Bool) (magnitude : ℕ) → (negative ≡ true → 0 < magnitude) → inside_of (if negative then neg_ℤ (pos magnitude) else pos magnitude) ≡ record { negative = negative; magnitude = magnitude }
same_parts false n h = refl
same_parts true zero h = absurd (omega (arith, h refl))
same_parts true (suc n) h = refl

pub inside_of-number : (a : Inside) → (a.negative ≡ true → 0 < a.magnitude) → inside_of (if a.negative then neg_ℤ (pos a.magnitude) else pos a.magnitude) ≡ a
inside_of-number a h = same_parts a.negative a.magnitude h
