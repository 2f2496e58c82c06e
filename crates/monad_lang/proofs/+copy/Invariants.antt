-- The fronts put aside, around what is left, are the whole.
use Rattle.std.proofs.Common.{◌≡◌, ◌≤◌}
use Rattle.monad_lang.specs.declared.program.Mon.{size-Mon}
use Rattle.monad_lang.specs.CodeProgram.{mon_of}
use Rattle.monad_lang.specs.CodeFront.{with_fronts}
use Rattle.monad_lang.proofs.+copy.Given as goal

abbrev pub invariant-program::Mon::copy-along : goal.invariant-program::Mon::copy-along
invariant-program::Mon::copy-along l = record {
  same : with_fronts l.fronts.items (mon_of l.rest) ≡ mon_of l.self;
  smaller : size-Mon l.rest ≤ size-Mon l.self;
}

abbrev pub decreases-program::Mon::copy-along : goal.decreases-program::Mon::copy-along
decreases-program::Mon::copy-along l = size-Mon l.rest
