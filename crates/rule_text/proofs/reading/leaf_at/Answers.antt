use Rattle.std.proofs.Common.{ap, ◌∙◌}
use Rattle.rule_text.specs.Arities.{fits}
use Rattle.rule_text.proofs.NodesRead.{leaf_reads}
use Rattle.rule_text.proofs.reading.leaf_at.Goals as goal

pub returns : goal.returns
returns g c =
    leaf_reads g.R.RuleReading.words g.R.RuleReading.plain_of c.args.at c.next.result (g.R.RuleReading.words.plain c.args.word.now) (record { rule = c.in-Some.rule; parts = c.new-parts.result }) c.fits.result
    c.in-Some.ensures (c.fits.ensures ∙ ap (λ a. fits a 0) c.arity.ensures) c.if-not-fits.false c.next.ensures c.new-parts.ensures.items
