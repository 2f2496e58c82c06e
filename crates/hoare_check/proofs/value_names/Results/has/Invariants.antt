-- The name is looked for among what is left.
use Rattle.std.proofs.Common.{◌≡◌, length}
use Rattle.c_values.specs.Name.{is_among}
use Rattle.hoare_check.specs.CodeResults.{names_of}
use Rattle.hoare_check.proofs.value_names.Results.has.Given as goal

abbrev pub invariant-along : goal.invariant-along
invariant-along l = is_among l.name (names_of l.rest) ≡ is_among l.name (names_of l.self)

abbrev pub decreases-along : goal.decreases-along
decreases-along l = length (names_of l.rest)
