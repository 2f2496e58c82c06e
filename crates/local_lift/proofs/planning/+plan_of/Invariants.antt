-- What is put aside, around what is left, is the whole, and its locals are found.
use Rattle.std.proofs.Common.{◌≡◌, ◌*◌, ◌+◌, ◌≤◌, max}
use Rattle.simpl_lang.specs.declared.command.Simpl.{size-Simpl}
use Rattle.simpl_lang.specs.CodeCommand.{simpl_of}
use Rattle.local_lift.specs.CodePlan.{around, AreRight, AssignedBeside}
use Rattle.local_lift.proofs.planning.+plan_of.Given as goal

abbrev pub invariant-planned_spine-along : goal.invariant-planned_spine-along
invariant-planned_spine-along l = record {
  same : around l.fronts.value (simpl_of l.rest) ≡ simpl_of l.c;
  right : AreRight l.locals l.fronts.value;
  beside : AssignedBeside l.locals (simpl_of l.rest) (simpl_of l.c) l.assigned.flags.items;
  smaller : size-Simpl l.rest ≤ size-Simpl l.c;
}

abbrev pub decreases-planned_spine-along : goal.decreases-planned_spine-along
decreases-planned_spine-along l = size-Simpl l.rest

abbrev pub decreases-plan_of : goal.decreases-plan_of
decreases-plan_of l = 4 * size-Simpl l.c.now + 3

abbrev pub decreases-planned_spine : goal.decreases-planned_spine
decreases-planned_spine l = 4 * size-Simpl l.c.now + 2

abbrev pub decreases-planned_last : goal.decreases-planned_last
decreases-planned_last l = 4 * size-Simpl l.c.now + 1

abbrev pub decreases-planned_choice : goal.decreases-planned_choice
decreases-planned_choice l = 4 * max (size-Simpl l.first.now) (size-Simpl l.second.now) + 4

abbrev pub decreases-planned_catch : goal.decreases-planned_catch
decreases-planned_catch l = 4 * max (size-Simpl l.first.now) (size-Simpl l.second.now) + 4

abbrev pub decreases-planned_loop : goal.decreases-planned_loop
decreases-planned_loop l = 4 * size-Simpl l.body.now + 4
