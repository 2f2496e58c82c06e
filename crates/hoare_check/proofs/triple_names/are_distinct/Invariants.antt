-- Those that are left decide it.
use Rattle.std.proofs.Common.{◌≡◌, length}
use Rattle.c_values.specs.Name.{are_distinct}
use Rattle.hoare_check.specs.CodeResults.{names_of}
use Rattle.hoare_check.proofs.triple_names.are_distinct.Given as goal

abbrev pub invariant-along : goal.invariant-along
invariant-along l = are_distinct (names_of l.rest) ≡ are_distinct (names_of l.names)

abbrev pub decreases-along : goal.decreases-along
decreases-along l = length (names_of l.rest)
