-- Each reason has its text.
use Rattle.std.proofs.Common.{◌≡◌, ◌++◌, List, ℕ, OnOk, ap, ◌∙◌}
use Rattle.std.specs.Prelude.{codes}
use Rattle.std.proofs.lemmas.Result.{on_ok_weaker}
use Rattle.correspondence.specs.Outcome.{Turns, Depth}
use Rattle.c_values.specs.CodeNumber.{number_op_of}
use Rattle.run_lines.specs.CodeEnds.{program_stop_of}
use Rattle.run_lines.specs.RunLines.{line_end, limit_text, wide_text, program_word, program_lines}
use Rattle.run_lines.proofs.Texts.{line_written}
use Rattle.run_lines.proofs.groups.write_program_stop.Goals as goal
use Rattle.run_lines.proofs.groups.write_program_stop.Goals.{in-Fails+in_ok-push-in-Fails, in-Wide+in_ok-push_wide-in-Wide, in-OutOfTurns+in_ok-push-in-OutOfTurns, in-Deep+in_ok-push-in-Deep}

pub returns : goal.returns
returns c = λ u f m.
    let whole = program_lines u f m (program_stop_of c.args.stop) in
    let written : (text : List ℕ) → whole ≡ program_word ++ (text ++ line_end) → c.match-stop.lines.items ≡ c.push.new.lines.items ++ text → OnOk c.push-2.result (c.push-2.new.lines.items ≡ c.args.lines.now.items ++ whole) =
    λ text is said.
    on_ok_weaker c.push-2.result (λ ended. line_written c.args.lines.now.items c.push.new.lines.items c.match-stop.lines.items c.push-2.new.lines.items program_word text line_end whole c.in_ok-push.ensures said is ended) c.push-2.ensures in
    elim c.match-stop.branch [
      | in-Fails+in_ok-push-in-Fails w ↦ written (codes " fails") (ap (λ s. program_lines u f m (program_stop_of s)) w.in-Fails.is) (ap (λ l. l.items) w.lines-is ∙ w.in_ok-push-in-Fails.ensures)
      | in-Wide+in_ok-push_wide-in-Wide w ↦
          written (wide_text (record { op = number_op_of w.in-Wide.op; first = w.in-Wide.first; second = w.in-Wide.second })) (ap (λ s. program_lines u f m (program_stop_of s)) w.in-Wide.is)
          (ap (λ l. l.items) w.lines-is ∙ w.in_ok-push_wide-in-Wide.ensures)
      | in-OutOfTurns+in_ok-push-in-OutOfTurns w ↦ written (limit_text Turns) (ap (λ s. program_lines u f m (program_stop_of s)) w.in-OutOfTurns.is) (ap (λ l. l.items) w.lines-is ∙ w.in_ok-push-in-OutOfTurns.ensures)
      | in-Deep+in_ok-push-in-Deep w ↦ written (limit_text Depth) (ap (λ s. program_lines u f m (program_stop_of s)) w.in-Deep.is) (ap (λ l. l.items) w.lines-is ∙ w.in_ok-push-in-Deep.ensures)
    ]
