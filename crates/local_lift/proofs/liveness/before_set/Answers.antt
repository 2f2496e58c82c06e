use Rattle.expression_lang.specs.CodeExpression.{exp_of}
use Rattle.expression_lang.specs.Mentions.{names}
use Rattle.local_lift.proofs.liveness.before_set.Goals as goal

pub returns : goal.returns
returns c = c.in_ok-before.ensures (λ y. names y (exp_of c.args.value.now)) c.in_ok-named.ensures
