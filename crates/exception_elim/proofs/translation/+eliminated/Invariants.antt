-- The fronts put aside, around what is left, are the whole.
use Rattle.std.proofs.Common.{◌≡◌, ◌≤◌}
use Rattle.simpl_lang.specs.declared.command.Simpl.{size-Simpl}
use Rattle.simpl_lang.specs.CodeCommand.{simpl_of}
use Rattle.exception_elim.specs.CodeDone.{done}
use Rattle.exception_elim.specs.CodeFront.{with_fronts}
use Rattle.exception_elim.proofs.translation.+eliminated.Given as goal

abbrev pub invariant-eliminated-along : goal.invariant-eliminated-along
invariant-eliminated-along l = record {
  same : with_fronts l.fronts.items (done (simpl_of l.rest)) ≡ done (simpl_of l.c);
  smaller : size-Simpl l.rest ≤ size-Simpl l.c;
}

abbrev pub decreases-eliminated-along : goal.decreases-eliminated-along
decreases-eliminated-along l = size-Simpl l.rest
