use Rattle.std.proofs.Common.{◌≡◌, ℕ, List, ◌++◌, OnOk, map, string_bytes, subst, ap, sym, ◌∙◌, append_assoc}
use Rattle.std.specs.Prelude.{codes}
use Rattle.expression_lang.specs.CodeExpression.{kind_of}
use Rattle.abs_print.specs.Texts.{each_after}
use Rattle.abs_print.specs.Programs.{results_text}
use Rattle.abs_print.proofs.Along.{behind_pushed}
use Rattle.abs_print.proofs.Seen.{binders_shown, binders_seen}
use Rattle.abs_print.proofs.functions.push_head.Goals as goal

pub returns : goal.returns
returns c =
    let old = c.args.out.now.items in
    let name = string_bytes c.args.function.now.name in
    let shown = each_after (codes " ") (binders_shown c.args.function.now.params.items) in
    let results = results_text (map kind_of c.args.function.now.results.items) in
    subst (λ (t : List ℕ). OnOk c.push_results.result (c.push_results.new.out.items ≡ t))
    (ap (λ ks. c.push-2.new.out.items ++ results_text (map kind_of ks)) c.as_slice-2.ensures.value
    ∙ behind_pushed c.push_each_after.new.out.items c.push-2.new.out.items (codes " : ") results c.in_ok-push-2.ensures
    ∙ behind_pushed c.push.new.out.items c.push_each_after.new.out.items shown (codes " : " ++ results)
    (c.in_ok-push_each_after.ensures ∙ ap (λ bs. c.push.new.out.items ++ each_after (codes " ") (binders_shown bs)) c.as_slice.ensures.value)
    ∙ behind_pushed old c.push.new.out.items name (shown ++ (codes " : " ++ results)) (c.in_ok-push.ensures ∙ ap (λ n. old ++ n) c.as_str.ensures.value)
    ∙ ap (λ t. old ++ t) (sym (append_assoc name shown (codes " : " ++ results)))
    ∙ ap (λ ts. old ++ ((name ++ each_after (codes " ") ts) ++ (codes " : " ++ results))) (sym (binders_seen c.args.function.now.params.items)))
    c.push_results.ensures
