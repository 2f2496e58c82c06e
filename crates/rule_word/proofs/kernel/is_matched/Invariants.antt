-- As many trees are left as claims where there are as many in all.
use Rattle.std.proofs.Common.{◌≡◌, ◌↔◌, ◌++◌, length}
use Rattle.rule_word.specs.Rule.{Context, Point}
use Rattle.rule_word.specs.CodeParts.{pairs_at, thens_at}
use Rattle.rule_word.proofs.kernel.is_matched.Given as goal

abbrev pub invariant-pairs : goal.invariant-pairs
invariant-pairs l = (ctx : Context) (at there : Point) →
    (length l.rest ≡ length (pairs_at ctx at l.left l.views l.right ++ thens_at ctx there l.then))
    ↔ (length l.parts ≡ length (pairs_at ctx at l.initial.left l.initial.views l.initial.right ++ thens_at ctx there l.then))

abbrev pub decreases-pairs : goal.decreases-pairs
decreases-pairs l = length l.rest
