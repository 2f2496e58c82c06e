-- One step into an object.
use Rattle.std.specs.Prelude.{◌≡◌, ℕ, ◌+◌, ◌≤◌, true, List, ◌∷◌, pos, ◌+ℤ◌}
use Rattle.std.specs.Option.{option_map}
use Rattle.c_values.specs.Types.{CType}
use Rattle.c_values.specs.Layout.{Layout, is_object, size_of}
use Rattle.c_values.specs.Path.{Step, offset_of}

-- the step leads to a part of this type at an offset
pub record IsPart (l : Layout) (t : CType) (p : Step) (offset : ℕ) (part : CType) : Type 0 where
  pub object : is_object l part ≡ true
  pub within : offset + size_of l part ≤ size_of l t
  pub further : (path : List Step) → offset_of l t (p ∷ path) ≡ option_map (λ d. pos offset +ℤ d) (offset_of l part path)
