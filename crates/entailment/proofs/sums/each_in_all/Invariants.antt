-- None is left of the facts that are left exactly where none of all is.
use Rattle.std.proofs.Common.{◌≡◌, map, length}
use Rattle.entailment.specs.CodeSums.{each_in_all, cancels}
use Rattle.entailment.specs.CodeClaim.{claim_of}
use Rattle.triple_lang.specs.CodeEntail.{weighed_of}
use Rattle.entailment.proofs.sums.each_in_all.Given as goal

abbrev pub invariant-along : goal.invariant-along
invariant-along l = each_in_all (cancels l.all.weight (map weighed_of l.all.weighed.now) (claim_of l.all.claim.now)) (map weighed_of l.rest)
    ≡ each_in_all (cancels l.all.weight (map weighed_of l.all.weighed.now) (claim_of l.all.claim.now)) (map weighed_of l.all.weighed.now)

abbrev pub decreases-along : goal.decreases-along
decreases-along l = length l.rest
