-- There are fewer bindings left at each call.
use Rattle.std.specs.Prelude.{length}
use Rattle.rule_tests.proofs.chain.values.+is_sorted_behind.Given as goal

abbrev pub decreases-is_sorted_behind : goal.decreases-is_sorted_behind
decreases-is_sorted_behind c = length c.bindings.now
