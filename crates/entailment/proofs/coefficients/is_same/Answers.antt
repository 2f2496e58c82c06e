-- Both tests decide it.
use Rattle.expression_lang.specs.CodeExpression.{exp_of}
use Rattle.entailment.proofs.SameTests.{same_test}
use Rattle.entailment.proofs.coefficients.is_same.Goals as goal

pub returns : goal.returns
returns c = same_test c.same.result (exp_of c.args.a.now) (exp_of c.args.b.now) c.same.ensures
