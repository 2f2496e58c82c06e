-- Those that are left decide it.
use Rattle.std.proofs.Common.{◌≡◌, true, ◌++◌, length}
use Rattle.c_values.specs.Name.{are_distinct}
use Rattle.hoare_check.specs.CodeResults.{names_of}
use Rattle.hoare_check.proofs.triple_names.are_distinct_together.Given as goal

abbrev pub invariant-along : goal.invariant-along
invariant-along l = record {
  left : are_distinct (names_of l.rest) ≡ true;
  same : are_distinct (names_of l.rest ++ names_of l.others) ≡ are_distinct (names_of l.names ++ names_of l.others);
}

abbrev pub decreases-along : goal.decreases-along
decreases-along l = length (names_of l.rest)
