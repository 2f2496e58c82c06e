-- What is left changes the state exactly where the whole does.
use Rattle.std.proofs.Common.{◌≡◌, ◌≤◌}
use Rattle.monad_lang.specs.declared.program.Mon.{size-Mon}
use Rattle.monad_lang.specs.CodeProgram.{mon_of}
use Rattle.program_facts.specs.Flow.{changes_state}
use Rattle.program_facts.proofs.parts.+changes_state.Given as goal

abbrev pub invariant-along : goal.invariant-along
invariant-along l = record {
  same : changes_state (mon_of l.rest) ≡ changes_state (mon_of l.m);
  smaller : size-Mon l.rest ≤ size-Mon l.m;
}
