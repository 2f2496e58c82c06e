-- What the code's reasons stand for.
use Rattle.std.specs.Prelude.{◌≡◌, slice_index_or, ℕ, ◌+◌, min, List, [], ◌∷◌, Option, Some, None, if◌then◌else◌}
use Rattle.c_values.specs.Name.{Name, same_name}
use Rattle.expression_lang.specs.Sort.{Level}
use Rattle.c_lang.specs.Typed.{TypedFn}
use Rattle.c_levels.specs.declared.modes.Reason as R
use Rattle.c_meaning.specs.Levels.{Reason, ByCast, ByCall, ByChoice, is_on_bytes}

-- a called function is told by its position; one past the last that is told is told as that
abbrev pub IsReason : List Name → R.Reason → Reason → Type 0
IsReason names R.TheVariants.Cast ByCast = Unit {0}
IsReason names (R.TheVariants.Calls j) (ByCall x) = (k : ℕ) × ((j ≡ min k 4294967295) × (slice_index_or names k [] ≡ x))
IsReason names R.TheVariants.Chosen ByChoice = Unit {0}
IsReason names _ _ = ⊥

-- the position of the function of a name, where it works on bytes
abbrev pub position_from : ℕ → List TypedFn → List Level → Name → Option ℕ
position_from k [] ls x = None
position_from k (f ∷ fs) [] x = None
position_from k (f ∷ fs) (l ∷ ls) x = if same_name f.name x then (if is_on_bytes l then Some k else None) else position_from (k + 1) fs ls x

abbrev pub or_later : Option ℕ → Option ℕ → Option ℕ
or_later (Some k) later = Some k
or_later None later = later

-- that of the first function that works on bytes
abbrev pub first_position : List TypedFn → List Level → List Name → Option ℕ
first_position fs ls [] = None
first_position fs ls (y ∷ ys) = or_later (position_from 0 fs ls y) (first_position fs ls ys)
