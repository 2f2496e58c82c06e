-- Where a path from an address leads: an address, and the shape that lies there.
use Rattle.std.specs.Prelude.{ℕ, Option, Some, None}
use Rattle.c_values.specs.Layout.{Layout, Shape, shape_of}
use Rattle.c_values.specs.Path.{Spot}
use Rattle.c_values.specs.Types.{CType}
use Rattle.c_memory.specs.Memory.{address_at}

pub record Place : Type 0 where
  pub address : ℕ
  pub shape : Shape

-- of a type
abbrev pub place_of : Layout → ℕ → CType → Place
place_of l a t = record { address = a; shape = shape_of l t }

abbrev pub place_from : ℕ → ℕ → Option Spot → Option Place
place_from space a None = None
place_from space a (Some q) = Some (record { address = address_at space a q.offset; shape = q.shape })
