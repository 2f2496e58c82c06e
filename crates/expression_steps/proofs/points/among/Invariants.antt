-- What is found so far stands for the names that were passed.
use Rattle.std.proofs.Common.{◌≡◌, length}
use Rattle.std.specs.Option.{option_map}
use Rattle.expression_lang.specs.CodeSort.{scalar_of}
use Rattle.expression_lang.specs.Sorted.{names_with}
use Rattle.expression_steps.specs.CodePoint.{names_of, scalars_of}
use Rattle.expression_steps.proofs.points.among.Given as goal

abbrev pub invariant-along : goal.invariant-along
invariant-along l =
    names_with (names_of l.bindings) (scalars_of l.bindings) (λ _. option_map scalar_of l.fn.before) l.name
    ≡ names_with (names_of l.rest) (scalars_of l.rest) (λ _. option_map scalar_of l.found) l.name

abbrev pub decreases-along : goal.decreases-along
decreases-along l = length l.rest
