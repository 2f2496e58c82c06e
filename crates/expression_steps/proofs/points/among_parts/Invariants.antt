-- What is found so far stands for the parts that were passed.
use Rattle.std.proofs.Common.{◌≡◌, length}
use Rattle.std.specs.Option.{option_map}
use Rattle.expression_lang.specs.CodeSort.{scalar_of}
use Rattle.expression_steps.specs.CodePoint.{names_behind}
use Rattle.expression_steps.proofs.points.among_parts.Given as goal

abbrev pub invariant-along : goal.invariant-along
invariant-along l =
    names_behind l.rest (λ _. option_map scalar_of l.found) l.name
    ≡ names_behind l.parts (λ _. option_map scalar_of l.fn.before) l.name

abbrev pub decreases-along : goal.decreases-along
decreases-along l = length l.rest
