-- The names that are left give it what all do.
use Rattle.std.proofs.Common.{◌≡◌, length, Option}
use Rattle.c_values.specs.Name.{Name}
use Rattle.expression_lang.specs.Sort.{Scalar}
use Rattle.expression_lang.specs.Sorted.{names_with}
use Rattle.expression_steps.specs.CodePoint.{names_of, scalars_of}
use Rattle.given_scalars.proofs.around.last_bound.Given as goal

abbrev pub invariant-names : goal.invariant-names
invariant-names l = (others : Name → Option Scalar) → names_with (names_of l.rest) (scalars_of l.rest) others l.name ≡ names_with (names_of l.names) (scalars_of l.names) others l.name

abbrev pub decreases-names : goal.decreases-names
decreases-names l = length l.rest
