-- Those that are listed, and those that are left, are all.
use Rattle.std.proofs.Common.{◌≡◌, Option, length, map, string_bytes}
use Rattle.c_values.specs.Name.{Name}
use Rattle.expression_lang.specs.Sort.{Scalar}
use Rattle.expression_lang.specs.Sorted.{names_with}
use Rattle.expression_lang.specs.CodeSort.{scalar_of}
use Rattle.expression_steps.specs.CodePoint.{names_of, scalars_of as bound_scalars}
use Rattle.given_scalars.proofs.sorted.bindings_also.Given as goal

abbrev pub invariant-names : goal.invariant-names
invariant-names l = (others : Name → Option Scalar) →
    names_with (map string_bytes l.rest) (map scalar_of l.left) (names_with (names_of l.all.items) (bound_scalars l.all.items) others)
    ≡ names_with (map string_bytes l.more) (map scalar_of l.scalars) (names_with (names_of l.fn.names.items) (bound_scalars l.fn.names.items) others)

abbrev pub decreases-names : goal.decreases-names
decreases-names l = length l.rest
