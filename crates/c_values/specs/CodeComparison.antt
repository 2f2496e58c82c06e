-- What a comparison of two values comes to.
use Rattle.std.specs.Prelude.{ℕ, ◌<◌, Bool, true, false}
use Rattle.c_values.specs.declared.value_equality.Comparison as C
use Rattle.c_values.specs.Value.{same_value}
use Rattle.c_values.specs.CodeValue.{value_of}
use Rattle.c_values.specs.CodeParts.{rank}

abbrev pub verdict : C.Comparison → Bool
verdict C.TheVariants.Same = true
verdict C.TheVariants.Differ = false
verdict (C.TheVariants.AsLast x y) = same_value (value_of x.now) (value_of y.now)

-- what is left to compare is less than n
abbrev pub IsSmaller : ℕ → C.Comparison → Type 0
IsSmaller n C.TheVariants.Same = Unit {0}
IsSmaller n C.TheVariants.Differ = Unit {0}
IsSmaller n (C.TheVariants.AsLast x y) = rank (value_of x.now) < n
