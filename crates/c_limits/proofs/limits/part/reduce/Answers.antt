use Rattle.std.proofs.Common.{◌∙◌, rules, Some, None}
use Rattle.c_limits.specs.CodeMeasure as machine
use Rattle.c_limits.proofs.LimitsSteps.{stack_pushed, reduced_is}
use Rattle.c_limits.proofs.limits.part.reduce.Goals as goal

pub returns-in_ok-push : goal.returns-in_ok-push
returns-in_ok-push c =
    stack_pushed c.gather.new.parts.items c.push.new.self.items c.in-Some.part c.in_ok-push.ensures.items
    ∙ reduced_is c.args.production _ _ (machine.part_of c.in_ok-sum.sum) (Some (machine.part_of c.in-Some.part)) (search rules) (search rules)

pub returns-in_default : goal.returns-in_default
returns-in_default c = reduced_is c.args.production _ _ (machine.part_of c.in_ok-sum.sum) None (search rules) (search rules)
