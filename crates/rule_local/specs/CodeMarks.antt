-- Sets of the first 64 names of a list, as the bits of a word.
use Rattle.std.specs.Prelude.{◌≡◌, ◌<◌, ℕ, zero, suc, Bool, true, false, List, [], ◌∷◌}
use Rattle.std.specs.Int.{bit_at}
use Rattle.c_values.specs.Name.{Name}

abbrev pub is_one : ℕ → Bool
is_one zero = false
is_one (suc n) = true

-- the name at this place is in the set
abbrev pub is_marked : ℕ → ℕ → Bool
is_marked bits place = is_one (bit_at bits place)

abbrev pub IsAt : List Name → ℕ → Name → Type 0
IsAt [] place y = ⊥
IsAt (x ∷ xs) zero y = x ≡ y
IsAt (x ∷ xs) (suc place) y = IsAt xs place y

-- the name stands at this place, and can be marked
pub record IsMarkable (xs : List Name) (place : ℕ) (y : Name) : Type 0 where
  pub within : place < 64
  pub at : IsAt xs place y
