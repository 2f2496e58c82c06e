use Rattle.std.proofs.Common.{◌≡◌, ℕ, List, ◌++◌, OnOk, subst, ap, sym, ◌∙◌}
use Rattle.std.specs.Prelude.{codes}
use Rattle.monad_lang.specs.CodeProgram.{mon_of}
use Rattle.abs_print.specs.Programs.{lines}
use Rattle.abs_print.specs.CodeLines.{at_margin}
use Rattle.abs_print.proofs.Margins.{function_lines}
use Rattle.abs_print.proofs.functions.push_body.Goals as goal

pub returns : goal.returns
returns c =
    let old = c.args.out.now.items in
    let body = lines (mon_of c.args.body.now) in
    subst (λ (t : List ℕ). OnOk c.push_lines.result (c.push_lines.new.out.items ≡ t))
    (ap (λ margin. old ++ at_margin margin body) (c.in_ok-push.ensures ∙ ap (λ margin. margin ++ codes "  ") c.new-margin.ensures.items)
    ∙ ap (λ t. old ++ t) (sym (function_lines body)))
    c.push_lines.ensures.text
