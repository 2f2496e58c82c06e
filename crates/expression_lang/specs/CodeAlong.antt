-- The shapes where steps lead, and the type whose parts a sort is of.
use Rattle.std.specs.Prelude.{Option, Some, None}
use Rattle.c_values.specs.Types.{CType}
use Rattle.c_values.specs.Layout.{Shape, Row}
use Rattle.c_values.specs.Path.{Spot}
use Rattle.expression_lang.specs.Sort.{Sort, Of, PartsSort}

abbrev pub shape_at : Option Spot → Option Shape
shape_at None = None
shape_at (Some q) = Some q.shape

-- the elements of an array
abbrev pub element_in : Shape → Option Shape
element_in (Row s n) = Some s
element_in _ = None

abbrev pub parts_type : Option Sort → Option CType
parts_type (Some (PartsSort t)) = Some t
parts_type (Some (Of s)) = None
parts_type None = None
