-- What is left makes the tree that all make, and there is less of it.
use Rattle.std.proofs.Common.{◌≡◌}
use Rattle.rule_walks.specs.Balanced.{built, links}
use Rattle.rule_walks.specs.CodeWalks.{chain_in}
use Rattle.rule_walks.proofs.walks.as_one.Given as goal

abbrev pub invariant-rounds : goal.invariant-rounds
invariant-rounds l = built (chain_in l.rest) ≡ built (chain_in l.fn.chain)

abbrev pub decreases-rounds : goal.decreases-rounds
decreases-rounds l = links (chain_in l.rest)
