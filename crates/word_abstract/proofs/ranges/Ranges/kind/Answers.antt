use Rattle.std.proofs.Common.{true, false, sym, ◌∙◌}
use Rattle.std.proofs.lemmas.Bool.{false≢true}
use Rattle.expression_lang.specs.Expression as X
use Rattle.expression_lang.specs.CodeExpression.{exp_of}
use Rattle.word_abstract.specs.CodeRanges.{natural_in, integer_in}
use Rattle.word_abstract.proofs.RangeLaws.{natural_given, integer_given, neither_given}
use Rattle.word_abstract.proofs.ranges.Ranges.kind.Goals as goal

pub returns-then-is_natural : goal.returns-then-is_natural
returns-then-is_natural c = λ before. sym (natural_given before (natural_in c.args.self.now) (integer_in c.args.self.now) (exp_of c.args.x.now) c.args.low c.args.high (c.is_natural.ensures.0 c.if-is_natural.true))

pub returns-then-is_of : goal.returns-then-is_of
returns-then-is_of c = λ before. sym (integer_given before (natural_in c.args.self.now) (integer_in c.args.self.now) (exp_of c.args.x.now) c.args.low c.args.high
    (λ h. false≢true (sym c.if-is_natural.false ∙ c.is_natural.ensures.1 h)) (c.is_of.ensures.0 c.if-is_of.true))

pub returns : goal.returns
returns c = λ before. sym (neither_given before (natural_in c.args.self.now) (integer_in c.args.self.now) (exp_of c.args.x.now) c.args.low c.args.high
    (λ h. false≢true (sym c.if-is_natural.false ∙ c.is_natural.ensures.1 h)) (λ h. false≢true (sym c.if-is_of.false ∙ c.is_of.ensures.1 h)))
