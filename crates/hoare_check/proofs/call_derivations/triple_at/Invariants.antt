-- No triple before is at the position.
use Rattle.std.proofs.Common.{◌≡◌, length}
use Rattle.hoare_check.specs.DeriveTable.{triple_at}
use Rattle.hoare_check.specs.CodeCalled.{all_assertions}
use Rattle.hoare_check.proofs.call_derivations.triple_at.Given as goal

abbrev pub invariant-along : goal.invariant-along
invariant-along l = triple_at l.left (all_assertions l.rest) ≡ triple_at l.position (all_assertions l.triples)

abbrev pub decreases-along : goal.decreases-along
decreases-along l = length l.rest
