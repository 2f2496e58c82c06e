use Rattle.std.proofs.Common.{◌++◌, ◌+◌, ◌-◌, ◌∙◌, ap, arith}
use Rattle.sample_text.specs.Sample.{line, lines_from}
use Rattle.sample_text.proofs.Lines.{next_line}
use Rattle.sample_text.proofs.sample_text.Goals as goal

pub loop-k-preserved : goal.loop-k-preserved
loop-k-preserved c =
    ap (λ text. text ++ lines_from (c.loop-k.k + 1) (c.args.count - (c.loop-k.k + 1))) (c.in_ok-push_line.ensures ∙ ap (λ k. c.loop-k.text.items ++ line k) c.from.ensures)
    ∙ next_line c.loop-k.text.items c.loop-k.k c.args.count (omega (arith, c.loop-k-test.true)) ∙ c.loop-k.invariant
