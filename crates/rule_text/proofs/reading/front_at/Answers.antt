use Rattle.std.proofs.Common.{length, ap, ◌∙◌}
use Rattle.std.proofs.lemmas.Result.{err_from_is_err_and}
use Rattle.ac_sx.specs.CodeSx.{tree_of, trees_in}
use Rattle.expression_text.specs.Reading.{next}
use Rattle.rule_text.specs.Arities.{fits}
use Rattle.rule_text.proofs.NodesRead.{plain_fits, plain_misfits, given_misfits, given_reads, given_fails}
use Rattle.rule_text.proofs.reading.front_at.Goals as goal

pub returns-then-fits-clause-read : goal.returns-then-fits-clause-read
returns-then-fits-clause-read g c =
    plain_fits g.R.RuleReading.words c.args.at c.next-inner.result c.args.word.now c.args.parts.now (g.R.RuleReading.plain_of c.in-Some-plain.rule) (tree_of c.in-Some.data.now) (trees_in c.in-Some.others.now) c.fits.result c.in-Some.ensures.parts (c.next-inner.ensures ∙ ap next c.next.ensures)
    c.in-Some-plain.ensures (c.fits.ensures ∙ ap (λ a. fits a (length c.args.parts.now)) c.arity.ensures) c.if-fits.true

pub returns-in-Some-plain-clause-read : goal.returns-in-Some-plain-clause-read
returns-in-Some-plain-clause-read g c =
    plain_misfits g.R.RuleReading.words c.args.at c.args.word.now c.args.parts.now (g.R.RuleReading.plain_of c.in-Some-plain.rule) (tree_of c.in-Some.data.now) (trees_in c.in-Some.others.now) c.fits.result c.in-Some.ensures.parts
    c.in-Some-plain.ensures (c.fits.ensures ∙ ap (λ a. fits a (length c.args.parts.now)) c.arity.ensures) c.if-fits.false

pub returns-then-not-fits-clause-read : goal.returns-then-not-fits-clause-read
returns-then-not-fits-clause-read g c =
    given_misfits g.R.RuleReading.words c.args.at c.args.word.now (trees_in c.args.parts.now) c.in-Some-given.arity (tree_of c.in-Some.data.now) c.in-Some.others.now c.fits-2.result c.in-Some.ensures.parts c.in_default-plain.ensures c.in-Some-given.ensures c.fits-2.ensures c.if-not-fits.true

pub returns-in_err-rule-clause-read : goal.returns-in_err-rule-clause-read
returns-in_err-rule-clause-read g c =
    let bad =
    given_fails g.R.RuleReading.words c.in_err-rule.field-0.0 c.args.at c.next-inner.result c.args.word.now (trees_in c.args.parts.now) c.in-Some-given.arity (tree_of c.in-Some.data.now) c.in-Some.others.now c.fits-2.result c.in-Some.ensures.parts (c.next-inner.ensures ∙ ap next c.next.ensures)
    c.in_default-plain.ensures c.in-Some-given.ensures c.fits-2.ensures c.if-not-fits.false c.in_err-rule.ensures in
    let p = err_from_is_err_and c.from_residual.result c.from_residual.ensures.1 in
    rw (p.1, p.2) bad

pub returns-clause-read : goal.returns-clause-read
returns-clause-read g c =
    given_reads g.R.RuleReading.words c.args.at c.next-inner.result c.args.word.now (trees_in c.args.parts.now) c.in-Some-given.arity (tree_of c.in-Some.data.now) c.in-Some.others.now c.fits-2.result (g.R.RuleReading.plain_of c.in_ok-rule.rule) c.in_ok-rule.behind c.in-Some.ensures.parts (c.next-inner.ensures ∙ ap next c.next.ensures)
    c.in_default-plain.ensures c.in-Some-given.ensures c.fits-2.ensures c.if-not-fits.false c.in_ok-rule.ensures
