use Rattle.std.proofs.Common.{◌≡◌, ℕ, List, ◌++◌, OnOk, subst, ap, sym, ◌∙◌}
use Rattle.std.specs.Prelude.{codes}
use Rattle.abs_print.specs.Texts.{parted}
use Rattle.abs_print.proofs.Along.{behind_pushed}
use Rattle.abs_print.proofs.Seen.{exps_shown, exps_seen}
use Rattle.abs_print.proofs.steps.push_call.Goals as goal

pub returns : goal.returns
returns c =
    let old = c.args.out.now.items in
    let f = c.args.function.now in
    let arguments = parted (codes ", ") (exps_shown c.args.arguments.now) in
    subst (λ (t : List ℕ). OnOk c.push-4.result (c.push-4.new.out.items ≡ t))
    (behind_pushed c.push-3.new.out.items c.push_parted.new.out.items arguments (codes ")") c.in_ok-push_parted.ensures
    ∙ behind_pushed c.push-2.new.out.items c.push-3.new.out.items (codes "(") (arguments ++ codes ")") c.in_ok-push-3.ensures
    ∙ behind_pushed c.push.new.out.items c.push-2.new.out.items f (codes "(" ++ (arguments ++ codes ")")) c.in_ok-push-2.ensures
    ∙ behind_pushed old c.push.new.out.items (codes "call ") (f ++ (codes "(" ++ (arguments ++ codes ")"))) c.in_ok-push.ensures
    ∙ ap (λ ts. old ++ (codes "call " ++ (f ++ (codes "(" ++ (parted (codes ", ") ts ++ codes ")"))))) (sym (exps_seen c.args.arguments.now)))
    c.push-4.ensures
