-- What is read from a file, where its contents are told.
use Rattle.std.specs.Prelude.{◌≡◌, ℕ, ◌<◌, ◌≤◌, List, length, take, drop, Option, IfSome}

-- the first k bytes of the room are the k bytes of the contents at this place
abbrev pub AreBytesAt : Option (List ℕ) → ℕ → ℕ → List ℕ → Type 0
AreBytesAt contents at k room = IfSome contents (λ file. take k room ≡ take k (drop at file))

-- the contents end at this place, or before it
abbrev pub EndsBy : Option (List ℕ) → ℕ → Type 0
EndsBy contents at = IfSome contents (λ file. length file ≤ at)

-- the bytes are the whole contents
abbrev pub AreWhole : Option (List ℕ) → List ℕ → Type 0
AreWhole contents bytes = IfSome contents (λ file. bytes ≡ file)

-- the contents are longer than the limit
abbrev pub IsLonger : Option (List ℕ) → ℕ → Type 0
IsLonger contents limit = IfSome contents (λ file. limit < length file)
