use Rattle.std.proofs.Common.{refl, sym, subst, ap, ap₂, ◌∙◌}
use Rattle.expression_lang.specs.CodeExpression.{exp_of}
use Rattle.simpl_lang.specs.Command as plain
use Rattle.local_lift.specs.CodePlan.{command_of, IsRight}
use Rattle.local_lift.proofs.PlanLaws.{assigned_either}
use Rattle.local_lift.proofs.planning.choice.Goals as goal

pub returns : goal.returns
returns c =
    λ bs a b h k. record {
      same = ap command_of c.in_ok-plan.ensures ∙ ap₂ (plain.Cond (exp_of c.args.test.now)) h.same k.same;
      right = subst (IsRight bs) (sym c.in_ok-plan.ensures) (h.right, k.right);
      assigned = assigned_either bs a b (plain.Cond (exp_of c.args.test.now) a b) c.args.first.assigned.flags.items c.args.second.assigned.flags.items c.in_ok-assigned.assigned.flags.items (λ y. refl) c.in_ok-assigned.ensures h.assigned k.assigned;
    }
