-- Each end is told with its lines.
use Rattle.std.proofs.Common.{◌++◌, refl, ap, subst, ◌∙◌}
use Rattle.std.proofs.lemmas.Result.{IfOk-weaker}
use Rattle.correspondence.specs.Outcome.{Done, Failed, Stopped, Turns, Depth}
use Rattle.c_values.specs.CodeNumber.{number_op_of}
use Rattle.program_runs.specs.WideRun.{Fails, IsWide}
use Rattle.run_lines.specs.CodeEnds.{given}
use Rattle.run_lines.specs.RunLines.{program_lines}
use Rattle.running.specs.CodeRuns.{unit_at, function_at, memory_at, state_held, HasOutcome}
use Rattle.running.proofs.program_side.end_lines.Goals as goal

pub returns-in_ok-write_program_value-in-Value : goal.returns-in_ok-write_program_value-in-Value
returns-in_ok-write_program_value-in-Value g c = λ cs ends.
    let s = c.args.start in
    let h = subst (HasOutcome g.H.Heap.content s cs) c.in-Value.is ends in
    record {
      end = Done (record { values = given c.in-Value.value; state = state_held s (g.H.Heap.content c.in-Value.heap) c.in-Value.globals.items });
      ends = h.0;
      written =
          c.in_ok-write_program_value-in-Value.ensures
          ∙ ap (λ gs. c.args.lines.now.items ++ program_lines (unit_at s) (function_at s) (memory_at s) (Done (record { values = given c.in-Value.value; state = state_held s (g.H.Heap.content c.in-Value.heap) gs })))
          c.deref.ensures.value;
      is = refl;
    }

pub returns-in-Fails : goal.returns-in-Fails
returns-in-Fails g c = λ cs ends.
    let s = c.args.start in
    IfOk-weaker c.program_stop.result _ _
    (λ came h. record { end = Failed Fails; ends = subst (HasOutcome g.H.Heap.content s cs) c.in-Fails.is ends; written = h.1; is = h.0 })
    (c.program_stop.ensures (unit_at s) (function_at s) (memory_at s))

pub returns-in-Wide : goal.returns-in-Wide
returns-in-Wide g c = λ cs ends.
    let s = c.args.start in
    IfOk-weaker c.program_stop-in-Wide.result _ _
    (λ came h. record { end = Failed (IsWide (record { op = number_op_of c.in-Wide.op; first = c.in-Wide.a; second = c.in-Wide.b })); ends = subst (HasOutcome g.H.Heap.content s cs) c.in-Wide.is ends; written = h.1; is = h.0 })
    (c.program_stop-in-Wide.ensures (unit_at s) (function_at s) (memory_at s))

pub returns-in-OutOfTurns : goal.returns-in-OutOfTurns
returns-in-OutOfTurns g c = λ cs ends.
    let s = c.args.start in
    IfOk-weaker c.program_stop-in-OutOfTurns.result _ _
    (λ came h. record { end = Stopped Turns; ends = subst (HasOutcome g.H.Heap.content s cs) c.in-OutOfTurns.is ends; written = h.1; is = h.0 })
    (c.program_stop-in-OutOfTurns.ensures (unit_at s) (function_at s) (memory_at s))

pub returns-in-Deep : goal.returns-in-Deep
returns-in-Deep g c = λ cs ends.
    let s = c.args.start in
    IfOk-weaker c.program_stop-in-Deep.result _ _
    (λ came h. record { end = Stopped Depth; ends = subst (HasOutcome g.H.Heap.content s cs) c.in-Deep.is ends; written = h.1; is = h.0 })
    (c.program_stop-in-Deep.ensures (unit_at s) (function_at s) (memory_at s))
