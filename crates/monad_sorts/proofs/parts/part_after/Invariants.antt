-- What is left is what is left after so many parts.
use Rattle.std.proofs.Common.{◌≡◌, ◌≤◌}
use Rattle.monad_lang.specs.declared.program.Mon.{size-Mon}
use Rattle.monad_lang.specs.CodeProgram.{mon_of}
use Rattle.monad_sorts.specs.CodeTold.{part_after}
use Rattle.monad_sorts.proofs.parts.part_after.Given as goal

abbrev pub invariant-parts : goal.invariant-parts
invariant-parts l = record {
  same : mon_of l.rest ≡ part_after l.step (mon_of l.m);
  smaller : size-Mon l.rest ≤ size-Mon l.m;
}
