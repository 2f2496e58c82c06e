-- What is found so far stands for the names that were passed.
use Rattle.std.proofs.Common.{◌≡◌, length, map, string_bytes}
use Rattle.std.specs.Option.{option_map}
use Rattle.expression_lang.specs.CodeSort.{scalar_of}
use Rattle.expression_lang.specs.Sorted.{names_with}
use Rattle.expression_steps.proofs.points.among_names.Given as goal

abbrev pub invariant-along : goal.invariant-along
invariant-along l =
    names_with (map string_bytes l.rest) (map scalar_of l.left) (λ _. option_map scalar_of l.found) l.name
    ≡ names_with (map string_bytes l.names) (map scalar_of l.scalars) (λ _. option_map scalar_of l.fn.before) l.name

abbrev pub decreases-along : goal.decreases-along
decreases-along l = length l.rest
