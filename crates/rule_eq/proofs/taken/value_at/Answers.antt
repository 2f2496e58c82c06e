-- What the slice has there.
use Rattle.expression_lang.specs.CodeExpression.{exp_of}
use Rattle.rule_eq.proofs.Taking.{item_there, no_item}
use Rattle.rule_eq.proofs.taken.value_at.Goals as goal

pub returns-clause-some : goal.returns-clause-some
returns-clause-some c = item_there exp_of c.args.values.now c.args.position c.get.result c.get.ensures.lookup

pub returns-clause-none : goal.returns-clause-none
returns-clause-none c = no_item exp_of c.args.values.now c.args.position c.get.result c.get.ensures.lookup
