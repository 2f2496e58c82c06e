-- The values so far, and those of the other expressions, are those of all; nothing before was wide.
use Rattle.std.proofs.Common.{◌≡◌, ◌++◌, map, length}
use Rattle.std.specs.Prelude.{IsSome}
use Rattle.c_values.specs.CodeValue.{value_of}
use Rattle.monad_lang.specs.Sorted.{start_scalars}
use Rattle.monad_lang.specs.Run.{start_values}
use Rattle.monad_lang.specs.CodeProgram.{start_of}
use Rattle.expression_lang.specs.CodeState.{env_of}
use Rattle.program_runs.specs.WideRun.{wide_at_starts}
use Rattle.program_runs.specs.CodeRun.{state_in, scope_of}
use Rattle.program_runs.proofs.machine.Setting.start_values.Given as goal

abbrev pub invariant-starts : goal.invariant-starts
invariant-starts g l =
    let env = env_of l.env.items in
    let s = state_in g.H.Heap.content l.self.unit.now l.state in
    record {
      so_far : map value_of l.values.items ++ start_values l.self.unit.now.layout env s (map start_of l.rest) ≡ start_values l.self.unit.now.layout env s (map start_of l.starts);
      narrow : wide_at_starts l.self.unit.now.layout env s (map start_of l.starts) ≡ wide_at_starts l.self.unit.now.layout env s (map start_of l.rest);
      sorted : IsSome (start_scalars (scope_of l.self.unit.now l.env.items) (map start_of l.rest));
    }

abbrev pub decreases-starts : goal.decreases-starts
decreases-starts g l = length l.rest
