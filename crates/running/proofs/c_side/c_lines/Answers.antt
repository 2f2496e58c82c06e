-- Each end is told with its lines.
use Rattle.std.proofs.Common.{◌++◌, refl, ap, subst, ◌∙◌}
use Rattle.std.specs.Option.{option_map}
use Rattle.std.proofs.lemmas.Result.{IfOk-weaker}
use Rattle.correspondence.specs.Outcome.{Done, Failed, Stopped, Turns, Depth}
use Rattle.c_values.specs.CodeValue.{value_of}
use Rattle.c_memory.specs.CodeHeap.{byte_content}
use Rattle.simpl_lang.specs.CodeCommand.{guard_kind_of}
use Rattle.run_lines.specs.RunLines.{c_lines}
use Rattle.running.specs.CodeRuns.{unit_at, function_at, memory_at, state_held, HasCEnd}
use Rattle.running.proofs.c_side.c_lines.Goals as goal

pub returns-in_ok-write_c_value-in-Value : goal.returns-in_ok-write_c_value-in-Value
returns-in_ok-write_c_value-in-Value c =
    let s = c.args.start in
    let h = subst (HasCEnd s) c.in-Value.is c.requires.ends in
    record {
      end = Done (record { result = option_map value_of c.in-Value.value; state = state_held s (byte_content c.in-Value.state.heap) c.in-Value.state.globals.items });
      ends = h.0;
      written =
          c.in_ok-write_c_value-in-Value.ensures
          ∙ ap (λ gs. c.args.lines.now.items ++ c_lines (unit_at s) (function_at s) (memory_at s) (Done (record { result = option_map value_of c.in-Value.value; state = state_held s (byte_content c.in-Value.state.heap) gs })))
          c.deref.ensures.value;
      is = refl;
    }

pub returns-in-Guard : goal.returns-in-Guard
returns-in-Guard c =
    let s = c.args.start in
    IfOk-weaker c.c_stop.result _ _
    (λ came h. record { end = Failed (guard_kind_of c.in-Guard.kind); ends = subst (HasCEnd s) c.in-Guard.is c.requires.ends; written = h.1; is = h.0 })
    (c.c_stop.ensures (unit_at s) (function_at s) (memory_at s))

pub returns-in-OutOfTurns : goal.returns-in-OutOfTurns
returns-in-OutOfTurns c =
    let s = c.args.start in
    IfOk-weaker c.c_stop-in-OutOfTurns.result _ _
    (λ came h. record { end = Stopped Turns; ends = subst (HasCEnd s) c.in-OutOfTurns.is c.requires.ends; written = h.1; is = h.0 })
    (c.c_stop-in-OutOfTurns.ensures (unit_at s) (function_at s) (memory_at s))

pub returns-in-Deep : goal.returns-in-Deep
returns-in-Deep c =
    let s = c.args.start in
    IfOk-weaker c.c_stop-in-Deep.result _ _
    (λ came h. record { end = Stopped Depth; ends = subst (HasCEnd s) c.in-Deep.is c.requires.ends; written = h.1; is = h.0 })
    (c.c_stop-in-Deep.ensures (unit_at s) (function_at s) (memory_at s))
