-- Those so far are accepted.
use Rattle.std.proofs.Common.{map, length}
use Rattle.monad_lang.specs.CodeProgram.{final_unit_of}
use Rattle.triple_lang.specs.CodeDeriv.{triple_of}
use Rattle.hoare_check.proofs.FirstFaults.{SoFar}
use Rattle.hoare_check.proofs.verdicts.check.Given as goal

abbrev pub invariant-along : goal.invariant-along
invariant-along l = SoFar (final_unit_of l.unit) (map triple_of l.triples) (map triple_of l.rest) l.number

abbrev pub decreases-along : goal.decreases-along
decreases-along l = length l.rest
