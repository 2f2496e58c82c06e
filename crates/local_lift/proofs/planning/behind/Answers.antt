use Rattle.std.proofs.Common.{sym, subst, ap, ◌∙◌}
use Rattle.local_lift.specs.CodePlan.{around, command_of, IsRight}
use Rattle.local_lift.proofs.PlanLaws.{assigned_whole}
use Rattle.local_lift.proofs.planning.behind.Goals as goal

pub returns : goal.returns
returns c =
    λ bs d whole r l e b. record {
      same = ap command_of c.in_ok-plan.ensures ∙ ap (around c.args.fronts.value) l.same ∙ e;
      right = subst (IsRight bs) (sym c.in_ok-plan.ensures) (r, l.right);
      assigned = assigned_whole bs d whole c.args.before.now.flags.items c.args.last.assigned.flags.items c.in_ok-assigned.assigned.flags.items c.in_ok-assigned.ensures b l.assigned;
    }
