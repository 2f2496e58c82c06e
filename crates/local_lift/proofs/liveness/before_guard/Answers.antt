use Rattle.expression_lang.specs.CodeExpression.{exp_of}
use Rattle.expression_lang.specs.Mentions as mentions
use Rattle.local_lift.specs.Live.{live}
use Rattle.local_lift.specs.CodeNames.{names}
use Rattle.local_lift.specs.CodeRows.{adding}
use Rattle.local_lift.proofs.RowLaws.{moves_then}
use Rattle.local_lift.proofs.liveness.before_guard.Goals as goal

pub returns : goal.returns
returns c =
    λ others a h. moves_then c.args.locals.now (live (names c.args.locals.now) a) (adding (λ y. mentions.names y (exp_of c.args.condition.now.exp))) others c.args.rows.items c.in_ok-before.before.items h (c.in_ok-before.ensures c.args.locals.now (λ y. mentions.names y (exp_of c.args.condition.now.exp)) c.in_ok-named.ensures)
