-- A first part put aside, and a last part behind what is put aside.
use Rattle.std.proofs.Common.{rules, ◌≡◌, ◌≤◌, sym, subst, ap, ◌∙◌}
use Rattle.std.proofs.lemmas.Result.{IfOk-weaker}
use Rattle.simpl_lang.specs.declared.command.Simpl.{size-Simpl}
use Rattle.simpl_lang.specs.Command as plain
use Rattle.simpl_lang.specs.CodeCommand.{simpl_of}
use Rattle.local_lift.specs.CodePlan.{around, AreRight, AssignedBeside, IsAssigned}
use Rattle.local_lift.proofs.PlanLaws.{beside_first, less_last}
use Rattle.local_lift.proofs.planning.+plan_of.Goals as goal

pub planned_spine-along-preserved-in-Seq : goal.planned_spine-along-preserved-in-Seq
planned_spine-along-preserved-in-Seq t c =
    let bs = c.args.locals.now in
    let a = simpl_of c.deref.result.now in
    let b = simpl_of c.deref-rest.result.now in
    let whole = simpl_of c.args.c.now in
    let part = c.in_ok-part-in-Seq.ensures in
    let e : simpl_of c.along.rest.now ≡ plain.Seq a b = search rules in
    let beside = subst (λ (d : plain.Simpl). AssignedBeside bs d whole c.along.assigned.flags.items) e c.along.invariant.beside in
    record {
      same =
          ap (λ fs. around fs b) c.in_ok-fronts-in-Seq.ensures ∙ ap (λ d. around c.along.fronts.value (plain.Seq d b)) part.same ∙ ap (around c.along.fronts.value) (sym e)
          ∙ c.along.invariant.same;
      right =
          subst (AreRight bs) (sym c.in_ok-fronts-in-Seq.ensures)
          (part.right, subst (λ (d : plain.Simpl). IsAssigned bs d c.in_ok-part-in-Seq.part.assigned.flags.items) (sym part.same) part.assigned, c.along.invariant.right);
      beside =
          beside_first bs a b whole c.along.assigned.flags.items c.in_ok-part-in-Seq.part.assigned.flags.items c.in_ok-assigned-in-Seq.assigned.flags.items c.in_ok-assigned-in-Seq.ensures beside
          part.assigned;
      smaller =
          subst (λ x. size-Simpl x ≤ size-Simpl c.args.c.now) (sym c.deref-rest.ensures)
          (less_last (size-Simpl c.args.c.now) c.along.rest.now c.in-Seq.last.value _ _ _ c.in-Seq.is c.along.invariant.smaller);
    }

pub planned_spine-returns-in_default : goal.planned_spine-returns-in_default
planned_spine-returns-in_default t c =
    let i = c.along.invariant in
    IfOk-weaker c.behind.result _ _ (λ p h. h c.args.locals.now (simpl_of c.along.rest.now) (simpl_of c.args.c.now) i.right c.in_ok-last-in_default.ensures i.same i.beside) c.behind.ensures
