-- The values so far, and those of the other expressions, are those of all; nothing before was wide.
use Rattle.std.proofs.Common.{◌≡◌, ◌++◌, map, length}
use Rattle.std.specs.Prelude.{IsSome}
use Rattle.c_values.specs.CodeValue.{value_of}
use Rattle.expression_lang.specs.Sorted.{scalars_of}
use Rattle.expression_lang.specs.Signature.{values_of}
use Rattle.expression_lang.specs.CodeExpression.{exp_of}
use Rattle.expression_lang.specs.CodeState.{env_of}
use Rattle.program_runs.specs.WideRun.{wide_among}
use Rattle.program_runs.specs.CodeRun.{state_in, scope_of}
use Rattle.program_runs.proofs.machine.Setting.values.Given as goal

abbrev pub invariant-exps : goal.invariant-exps
invariant-exps g l =
    let env = env_of l.env.items in
    let s = state_in g.H.Heap.content l.self.unit.now l.state in
    record {
      so_far : map value_of l.values.items ++ values_of l.self.unit.now.layout env s (map exp_of l.rest) ≡ values_of l.self.unit.now.layout env s (map exp_of l.exps);
      narrow : wide_among l.self.unit.now.layout env s (map exp_of l.exps) ≡ wide_among l.self.unit.now.layout env s (map exp_of l.rest);
      sorted : IsSome (scalars_of (scope_of l.self.unit.now l.env.items) (map exp_of l.rest));
    }

abbrev pub decreases-exps : goal.decreases-exps
decreases-exps g l = length l.rest
