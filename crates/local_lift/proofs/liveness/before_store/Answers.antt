use Rattle.std.proofs.Common.{◌||◌}
use Rattle.expression_lang.specs.CodeExpression.{exp_of, path_of}
use Rattle.expression_lang.specs.Mentions.{names}
use Rattle.simpl_lang.specs.Names.{path_names}
use Rattle.local_lift.proofs.liveness.before_store.Goals as goal

pub returns : goal.returns
returns c =
    λ t. c.in_ok-before.ensures c.args.locals.now (λ y. names y (exp_of c.args.pointer.now) || path_names y (path_of c.args.path.now) || names y (exp_of c.args.value.now)) c.in_ok-named.ensures
