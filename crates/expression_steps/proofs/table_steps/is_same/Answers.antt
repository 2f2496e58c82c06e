use Rattle.expression_lang.specs.CodeExpression.{exp_of}
use Rattle.expression_steps.proofs.Tested.{same_tested}
use Rattle.expression_steps.proofs.table_steps.is_same.Goals as goal

pub returns : goal.returns
returns c = same_tested (exp_of c.args.a.now) (exp_of c.args.b.now) c.same.result c.same.ensures
