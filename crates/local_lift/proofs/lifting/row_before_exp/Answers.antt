use Rattle.expression_lang.specs.CodeExpression.{exp_of}
use Rattle.expression_lang.specs.Mentions as mentions
use Rattle.local_lift.proofs.RowLaws.{added_row}
use Rattle.local_lift.proofs.lifting.row_before_exp.Goals as goal

pub returns : goal.returns
returns c =
    added_row c.args.locals.now (λ y. mentions.names y (exp_of c.args.exp.now)) c.in_ok-named.named.flags.items c.args.row.now.flags.items c.in_ok-before.before.flags.items c.in_ok-before.ensures c.in_ok-named.ensures
