use Rattle.std.proofs.Common.{refl, sym, subst, ap, ap₂, ◌∙◌}
use Rattle.simpl_lang.specs.Command as plain
use Rattle.local_lift.specs.CodePlan.{command_of, IsRight}
use Rattle.local_lift.proofs.PlanLaws.{assigned_either}
use Rattle.local_lift.proofs.planning.caught.Goals as goal

pub returns : goal.returns
returns c =
    λ bs a b h k. record {
      same = ap command_of c.in_ok-plan.ensures ∙ ap₂ plain.Catch h.same k.same;
      right = subst (IsRight bs) (sym c.in_ok-plan.ensures) (h.right, k.right);
      assigned = assigned_either bs a b (plain.Catch a b) c.args.first.assigned.flags.items c.args.second.assigned.flags.items c.in_ok-assigned.assigned.flags.items (λ y. refl) c.in_ok-assigned.ensures h.assigned k.assigned;
    }
