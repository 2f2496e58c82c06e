-- The positions so far, and then those of the marks that are left.
use Rattle.std.proofs.Common.{◌≡◌, ◌+◌, ◌++◌, length}
use Rattle.c_levels.specs.CodeSpread.{positions_from}
use Rattle.c_levels.proofs.spreading.marked_positions.Given as goal

abbrev pub invariant-rest : goal.invariant-rest
invariant-rest l = record {
  same : l.positions.items ++ positions_from l.k l.rest ≡ positions_from 0 l.marks;
  count : l.k + length l.rest ≡ length l.marks;
}

abbrev pub decreases-rest : goal.decreases-rest
decreases-rest l = length l.rest
