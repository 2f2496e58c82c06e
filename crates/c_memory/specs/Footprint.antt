-- What a function may change of a memory: on typed heaps what the tags cover, and nothing else.
use Rattle.std.specs.Prelude.{◌≡◌, ℕ, ◌+◌, ◌<◌, ◌≤◌, Bool, true, List, [], ◌∷◌, ◌⊎◌}
use Rattle.c_values.specs.Layout.{Layout, size_of}
use Rattle.c_memory.specs.Memory.{Tag, Memory}

-- an address in the footprint of a tag
abbrev pub InFootprint : Layout → List Tag → ℕ → Type 0
InFootprint l [] x = ⊥
InFootprint l (t ∷ ts) x = ((t.address ≤ x) × (x < t.address + size_of l t.type)) ⊎ InFootprint l ts x

-- the tags stay, and for a function on typed heaps every byte outside of all footprints
pub record KeepsMemory (l : Layout) (lifted : Bool) (before after : Memory) : Type 0 where
  pub tags : after.tags ≡ before.tags
  pub bytes : lifted ≡ true → (x : ℕ) → (InFootprint l before.tags x → ⊥) → after.bytes x ≡ before.bytes x
