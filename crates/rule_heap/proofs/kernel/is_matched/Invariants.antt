-- As many trees are left as claims where there are as many in all.
use Rattle.std.proofs.Common.{◌≡◌, ◌↔◌, List, ◌++◌, length}
use Rattle.ac_expr.specs.Fact.{Fact}
use Rattle.rule_heap.specs.Table.{each}
use Rattle.rule_heap.specs.CodeParts.{then_in}
use Rattle.rule_parts.specs.CodeExps.{exps_in}
use Rattle.rule_heap.proofs.kernel.is_matched.Given as goal

abbrev pub invariant-pairs : goal.invariant-pairs
invariant-pairs l = (fs : List Fact) →
    (length l.rest ≡ length (each fs (exps_in l.left) (exps_in l.right) ++ then_in fs l.then))
    ↔ (length l.parts ≡ length (each fs (exps_in l.initial.left) (exps_in l.initial.right) ++ then_in fs l.then))

abbrev pub decreases-pairs : goal.decreases-pairs
decreases-pairs l = length l.rest
