use Rattle.expression_lang.specs.CodeExpression.{exp_of}
use Rattle.expression_lang.specs.Mentions as mentions
use Rattle.local_lift.specs.Live.{live}
use Rattle.local_lift.specs.CodeNames.{names}
use Rattle.local_lift.specs.CodeRows.{adding}
use Rattle.local_lift.proofs.RowLaws.{moves_then, each_either_moves}
use Rattle.local_lift.proofs.liveness.before_test.Goals as goal

pub returns : goal.returns
returns c =
    λ rows a b h k. each_either_moves c.args.locals.now (λ p. adding (λ y. mentions.names y (exp_of c.args.test.now)) (live (names c.args.locals.now) a p)) (live (names c.args.locals.now) b) rows c.in_ok-tested.tested.items c.args.rights.items c.in_ok-before.before.items
    c.in_ok-before.ensures
    (moves_then c.args.locals.now (live (names c.args.locals.now) a) (adding (λ y. mentions.names y (exp_of c.args.test.now))) rows c.args.lefts.items c.in_ok-tested.tested.items h (c.in_ok-tested.ensures c.args.locals.now (λ y. mentions.names y (exp_of c.args.test.now)) c.in_ok-named.ensures)) k
