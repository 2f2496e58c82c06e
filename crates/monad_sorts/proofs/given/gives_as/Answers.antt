-- Where the first is well-sorted too, both give the same where what is told of their values is the same.
use Rattle.std.proofs.Common.{sym, ◌∙◌}
use Rattle.monad_lang.specs.CodeProgram.{mon_of}
use Rattle.monad_sorts.specs.CodeInside.{setting_in, scalars_in}
use Rattle.monad_sorts.proofs.SameGiven.{sorted_gives, told_give, given_told}
use Rattle.monad_sorts.proofs.given.gives_as.Goals as goal

pub returns-then-is_sorted : goal.returns-then-is_sorted
returns-then-is_sorted c =
    let t = setting_in c.args.setting (scalars_in c.args.inside.now) in
    let m = mon_of c.args.m.now in
    let n = mon_of c.args.other.now in
    let given = sorted_gives t m c.is_sorted.result c.is_sorted.ensures c.if-is_sorted.true in (
      (λ h. told_give t m n given c.requires (sym c.same_values.ensures ∙ h)),
      (λ k. c.same_values.ensures ∙ given_told t m n k),
    )
