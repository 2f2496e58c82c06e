-- The facts that are left make the sum so far the whole.
use Rattle.std.proofs.Common.{◌≡◌, map, length}
use Rattle.entailment.specs.CodeSums.{added_all, total_found}
use Rattle.entailment.specs.CodeClaim.{claim_of}
use Rattle.triple_lang.specs.CodeEntail.{weighed_of}
use Rattle.entailment.specs.CodeInequality.{place_of}
use Rattle.entailment.proofs.sums.total.Given as goal

abbrev pub invariant-along : goal.invariant-along
invariant-along l = added_all l.sum (map weighed_of l.rest) (place_of l.place)
    ≡ total_found l.all.weight (map weighed_of l.all.weighed.now) (claim_of l.all.claim.now) (place_of l.place)

abbrev pub decreases-along : goal.decreases-along
decreases-along l = length l.rest
