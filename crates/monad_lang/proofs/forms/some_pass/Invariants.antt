-- What is left passes where the whole does.
use Rattle.std.proofs.Common.{◌≡◌, map, length}
use Rattle.expression_lang.specs.CodeExpression.{exp_of}
use Rattle.monad_lang.specs.Form.{some_has}
use Rattle.monad_lang.proofs.forms.some_pass.Given as goal

abbrev pub invariant-along : goal.invariant-along
invariant-along g l = some_has (g.T.Test.holds l.test) (map exp_of l.rest) ≡ some_has (g.T.Test.holds l.test) (map exp_of l.exps)

abbrev pub decreases-along : goal.decreases-along
decreases-along g l = length l.rest
