-- What is lifted so far is what is done lifted, and what is left, around what is done, is the whole.
use Rattle.std.proofs.Common.{◌≡◌, suc, ◌*◌, ◌≤◌, max, map, string_bytes}
use Rattle.simpl_lang.specs.Command.{Simpl}
use Rattle.local_lift.specs.declared.plan.Plan.{size-Plan}
use Rattle.local_lift.specs.declared.plan.Fronts.{size-Fronts}
use Rattle.local_lift.specs.CodeLifted.{IsLifted}
use Rattle.local_lift.specs.CodePlan.{around, command_of, AreRight}
use Rattle.local_lift.proofs.lifting.+lift.Given as goal

abbrev pub invariant-lift_behind-back : goal.invariant-lift_behind-back
invariant-lift_behind-back l = record {
  done : (a : Simpl) × IsLifted l.locals a (map string_bytes l.outputs) l.whole × (around l.rest a ≡ around l.fronts (command_of l.last));
  right : AreRight l.locals l.rest;
  smaller : size-Fronts l.rest ≤ size-Fronts l.fronts;
}

abbrev pub decreases-lift : goal.decreases-lift
decreases-lift l = suc (2 * size-Plan l.plan.now)

abbrev pub decreases-lift_choice : goal.decreases-lift_choice
decreases-lift_choice l = suc (suc (2 * max (size-Plan l.first.now) (size-Plan l.second.now)))

abbrev pub decreases-lift_loop : goal.decreases-lift_loop
decreases-lift_loop l = suc (suc (2 * size-Plan l.body.now))

abbrev pub decreases-lift_behind : goal.decreases-lift_behind
decreases-lift_behind l = suc (suc (2 * max (size-Fronts l.fronts.now) (size-Plan l.last.now)))
