-- The fronts put aside, around what is left, are the whole.
use Rattle.std.proofs.Common.{◌≡◌, ◌≤◌}
use Rattle.monad_lang.specs.declared.program.Mon.{size-Mon}
use Rattle.monad_lang.specs.CodeProgram.{mon_of}
use Rattle.heap_lift.specs.Lifted.{lifted}
use Rattle.heap_lift.specs.CodeLifted.{with_fronts}
use Rattle.heap_lift.proofs.translation.+lifted.Given as goal

abbrev pub invariant-lifted-along : goal.invariant-lifted-along
invariant-lifted-along l = record {
  same : with_fronts l.fronts.items (lifted (mon_of l.rest)) ≡ lifted (mon_of l.m);
  smaller : size-Mon l.rest ≤ size-Mon l.m;
}

abbrev pub decreases-lifted-along : goal.decreases-lifted-along
decreases-lifted-along l = size-Mon l.rest
