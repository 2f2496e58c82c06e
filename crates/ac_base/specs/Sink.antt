-- What a sink took, where it is told.
use Rattle.std.specs.Prelude.{◌≡◌, ℕ, ◌<◌, List, ◌++◌, length, take, Option, Some, None}

-- what was taken, and then these bytes
abbrev pub grown : Option (List ℕ) → List ℕ → Option (List ℕ)
grown None bytes = None
grown (Some before) bytes = Some (before ++ bytes)

-- some of the bytes were taken, from the first on, and not all
abbrev pub TakesPart : Option (List ℕ) → List ℕ → Option (List ℕ) → Type 0
TakesPart before bytes after = (k : ℕ) × (k < length bytes) × (after ≡ grown before (take k bytes))
