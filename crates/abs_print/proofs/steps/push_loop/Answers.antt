use Rattle.std.proofs.Common.{◌≡◌, ℕ, List, ◌++◌, OnOk, subst, ap, sym, ◌∙◌}
use Rattle.std.specs.Prelude.{codes}
use Rattle.expression_lang.specs.CodeExpression.{exp_of}
use Rattle.abs_print.specs.Texts.{behind_space}
use Rattle.abs_print.specs.Expressions.{exp_text}
use Rattle.abs_print.proofs.Along.{behind_pushed}
use Rattle.abs_print.proofs.Seen.{starts_shown, starts_seen}
use Rattle.abs_print.proofs.steps.push_loop.Goals as goal

pub returns : goal.returns
returns c =
    let old = c.args.out.now.items in
    let starts = behind_space (starts_shown c.args.starts.now) in
    let guard = exp_text (exp_of c.args.guard.now) in
    let test = exp_text (exp_of c.args.test.now) in
    subst (λ (t : List ℕ). OnOk c.push_exp-2.result (c.push_exp-2.new.out.items ≡ t))
    (behind_pushed c.push_exp.new.out.items c.push-3.new.out.items (codes " test ") test c.in_ok-push-3.ensures
    ∙ behind_pushed c.push-2.new.out.items c.push_exp.new.out.items guard (codes " test " ++ test) c.in_ok-push_exp.ensures
    ∙ behind_pushed c.push_behind_space.new.out.items c.push-2.new.out.items (codes " guard ") (guard ++ (codes " test " ++ test)) c.in_ok-push-2.ensures
    ∙ behind_pushed c.push.new.out.items c.push_behind_space.new.out.items starts (codes " guard " ++ (guard ++ (codes " test " ++ test))) c.in_ok-push_behind_space.ensures
    ∙ behind_pushed old c.push.new.out.items (codes "loop") (starts ++ (codes " guard " ++ (guard ++ (codes " test " ++ test)))) c.in_ok-push.ensures
    ∙ ap (λ ts. old ++ (codes "loop" ++ (behind_space ts ++ (codes " guard " ++ (guard ++ (codes " test " ++ test)))))) (sym (starts_seen c.args.starts.now)))
    c.push_exp-2.ensures
