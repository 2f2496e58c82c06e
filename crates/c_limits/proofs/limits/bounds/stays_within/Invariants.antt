-- What the steps that are left tell is what all of them do, and the bounds are within the limits.
use Rattle.std.proofs.Common.{◌≡◌, true, [], length, reverse}
use Rattle.c_limits.specs.CodeBounds.{none, is_within, stay_within}
use Rattle.c_limits.proofs.limits.bounds.stays_within.Given as goal

abbrev pub invariant-along : goal.invariant-along
invariant-along l = record {
  same : stay_within l.bounds (reverse l.depths.items) l.rest ≡ stay_within none [] l.steps;
  within : is_within l.bounds ≡ true;
}

abbrev pub decreases-along : goal.decreases-along
decreases-along l = length l.rest
