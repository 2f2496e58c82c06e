use Rattle.std.proofs.Common.{◌≡◌, ◌++◌, sym, ap, ◌∙◌}
use Rattle.std.proofs.lemmas.List.{append-nil}
use Rattle.std.proofs.lemmas.Result.{IfOk-weaker}
use Rattle.expression_lang.specs.CodeExpression.{level_of}
use Rattle.c_lang.specs.CodeTyped.{function_of}
use Rattle.checking.proofs.LinesLeft.{reason_at, line_whole, with_reason, no_reason}
use Rattle.checking.proofs.lines.add_line.Goals as goal
use Rattle.checking.proofs.lines.add_line.Goals.{in-Bytes+in_ok-add_reason-in-Bytes, in-Words}

pub returns : goal.returns
returns c =
    IfOk-weaker c.push-4.result _ _
    (λ _ e levels is level.
    let reasoned : c.match-level.lines.items ≡ c.push-3.new.lines.items ++ reason_at levels (function_of c.args.function.now) (level_of c.args.level) =
    elim c.match-level.branch [
      | in-Bytes+in_ok-add_reason-in-Bytes w ↦
          ap (λ l. l.items) w.lines-is ∙ w.in_ok-add_reason-in-Bytes.ensures levels (function_of c.args.function.now) is c.requires.here
          ∙ ap (λ r. c.push-3.new.lines.items ++ r) (with_reason levels (function_of c.args.function.now) c.args.level w.in-Bytes.is)
      | in-Words w ↦
          ap (λ l. l.items) w.lines-is ∙ sym (append-nil c.push-3.new.lines.items)
          ∙ ap (λ r. c.push-3.new.lines.items ++ r) (no_reason levels (function_of c.args.function.now) c.args.level w.in-Words.is)
    ] in
    line_whole levels (function_of c.args.function.now) (level_of c.args.level) c.args.lines.now.items c.push.new.lines.items c.push-2.new.lines.items
    c.push-3.new.lines.items c.match-level.lines.items c.push-4.new.lines.items
    (c.in_ok-push.ensures ∙ ap (λ t. c.args.lines.now.items ++ t) c.as_str.ensures.value) c.in_ok-push-2.ensures
    (c.in_ok-push-3.ensures ∙ ap (λ t. c.push-2.new.lines.items ++ t) c.level_word.ensures) reasoned e level)
    c.push-4.ensures
