-- The rows so far are those before what is done, and what is left, around what is done, is the whole.
use Rattle.std.proofs.Common.{◌≡◌, suc, ◌*◌, ◌≤◌, max}
use Rattle.simpl_lang.specs.Command.{Simpl}
use Rattle.local_lift.specs.declared.plan.Plan.{size-Plan}
use Rattle.local_lift.specs.declared.plan.Fronts.{size-Fronts}
use Rattle.local_lift.specs.Live.{live}
use Rattle.local_lift.specs.CodeNames.{names}
use Rattle.local_lift.specs.CodePlan.{around, command_of, AreRight}
use Rattle.local_lift.specs.CodeRows.{Moves}
use Rattle.local_lift.proofs.liveness.+lived.Given as goal

abbrev pub invariant-lived_behind-back : goal.invariant-lived_behind-back
invariant-lived_behind-back l = record {
  done : (a : Simpl) × Moves l.locals (live (names l.locals) a) l.fn.rows.items l.before.items × (around l.rest a ≡ around l.fronts (command_of l.last));
  right : AreRight l.locals l.rest;
  smaller : size-Fronts l.rest ≤ size-Fronts l.fronts;
}

abbrev pub decreases-lived : goal.decreases-lived
decreases-lived l = suc (2 * size-Plan l.plan.now)

abbrev pub decreases-lived_choice : goal.decreases-lived_choice
decreases-lived_choice l = suc (suc (2 * max (size-Plan l.first.now) (size-Plan l.second.now)))

abbrev pub decreases-lived_behind : goal.decreases-lived_behind
decreases-lived_behind l = suc (suc (2 * max (size-Fronts l.fronts.now) (size-Plan l.last.now)))
