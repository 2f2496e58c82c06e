-- Sorts against scalars: of what goes to a name, and of what goes to names of some kinds.
use Rattle.std.specs.Prelude.{Bool, false, List, map, Option, Some, None}
use Rattle.expression_lang.specs.Sort.{Scalar, Sort, Of, Kind, same_scalar}
use Rattle.expression_lang.specs.Sorted.{same_scalars}

abbrev pub is_scalar_of : Option Scalar → Option Sort → Bool
is_scalar_of (Some s) (Some (Of t)) = same_scalar s t
is_scalar_of _ _ = false

-- names of these kinds may take values of these scalars, where each has one
abbrev pub may_take : (Kind → Scalar) → List Kind → Option (List Scalar) → Bool
may_take sort_for ks None = false
may_take sort_for ks (Some ss) = same_scalars (map sort_for ks) ss
