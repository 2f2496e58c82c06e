use Rattle.std.proofs.Common.{◌≡◌, ℕ, List, ◌++◌, OnOk, subst, ap, sym, ◌∙◌}
use Rattle.std.specs.Prelude.{codes}
use Rattle.abs_print.specs.Texts.{behind_space}
use Rattle.abs_print.proofs.Along.{behind_pushed}
use Rattle.abs_print.proofs.Seen.{exps_shown, exps_seen}
use Rattle.abs_print.proofs.steps.push_return.Goals as goal

pub returns : goal.returns
returns c =
    let old = c.args.out.now.items in
    subst (λ (t : List ℕ). OnOk c.push_behind_space.result (c.push_behind_space.new.out.items ≡ t))
    (behind_pushed old c.push.new.out.items (codes "return") (behind_space (exps_shown c.args.values.now)) c.in_ok-push.ensures
    ∙ ap (λ ts. old ++ (codes "return" ++ behind_space ts)) (sym (exps_seen c.args.values.now)))
    c.push_behind_space.ensures
