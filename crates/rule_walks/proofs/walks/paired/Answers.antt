use Rattle.std.proofs.Common.{sym}
use Rattle.rule_walks.proofs.StepLists.{pairs}
use Rattle.rule_walks.proofs.walks.paired.Goals as goal

pub steps-preserved : goal.steps-preserved
steps-preserved c =
    pairs _ _ _ _ c.in-Some-take.first _ _ _ _ c.in_ok-push-in-Some-take.ensures.items (sym c.in-Some-take.ensures.value) c.in-Some-take.ensures.after
    c.steps.invariant c.in_ok-joined_step-in-Some-take.ensures.tree c.in_ok-joined_step-in-Some-take.ensures.program
