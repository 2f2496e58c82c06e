use Rattle.std.proofs.Common.{◌≡◌, min, drop, length, arith, ap, ◌∙◌}
use Rattle.std.proofs.lemmas.List.{drop_min}
use Rattle.rule_local.proofs.taken.behind.Goals as goal

pub returns : goal.returns
returns c =
    let turned : c.min.result ≡ min 64 (length c.args.binders.now) = omega arith in
    c.split_at.ensures.back ∙ ap (λ n. drop n c.args.binders.now) turned ∙ drop_min 64 c.args.binders.now
