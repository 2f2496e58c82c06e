-- The pairs so far, behind which those that are left are paired, are the pairs of all.
use Rattle.std.proofs.Common.{◌≡◌}
use Rattle.rule_walks.specs.Balanced.{Chain, paired}
use Rattle.rule_walks.specs.CodeWalks.{with_steps, with_waiting}
use Rattle.rule_walks.proofs.walks.paired.Given as goal

abbrev pub invariant-steps : goal.invariant-steps
invariant-steps l =
    (c : Chain) → with_steps l.fn.made.items (paired (with_steps l.yielded c)) ≡ with_steps l.made.items (paired (with_waiting l.waiting c))
