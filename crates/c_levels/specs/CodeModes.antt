-- The levels that the code's modes give to the functions of a unit, and those that they have by their marks.
use Rattle.std.specs.Prelude.{◌≡◌, ℕ, zero, suc, Bool, true, false, List, [], ◌∷◌, map, if◌then◌else◌}
use Rattle.c_values.specs.Name.{Name}
use Rattle.expression_lang.specs.Sort.{Level, Bytes, Words, Numbers}
use Rattle.expression_lang.specs.CodeExpression.{level_of}
use Rattle.c_lang.specs.Typed.{TypedFn, TypedUnit}
use Rattle.c_levels.specs.declared.modes.Modes.{Modes}

abbrev pub levels_in : Modes → List Level
levels_in m = map level_of m.levels.items

-- each function has the level that stands at its position
abbrev pub AreLevels : TypedUnit → Modes → (Name → Level) → Type 0
AreLevels u m levels = map (λ f. levels f.name) u.functions ≡ levels_in m

-- the function at a position
abbrev pub IsAt : List TypedFn → ℕ → TypedFn → Type 0
IsAt [] k f = ⊥
IsAt (g ∷ gs) zero f = g ≡ f
IsAt (g ∷ gs) (suc k) f = IsAt gs k f

-- by whether a function works on bytes, and by the names for `words`
abbrev pub default_level : (Name → Bool) → Bool → Name → Level
default_level is_worded true x = Bytes
default_level is_worded false x = if is_worded x then Words else Numbers

abbrev pub default_levels : (Name → Bool) → List TypedFn → List Bool → List Level
default_levels is_worded [] ms = []
default_levels is_worded (f ∷ fs) [] = []
default_levels is_worded (f ∷ fs) (m ∷ ms) = default_level is_worded m f.name ∷ default_levels is_worded fs ms
