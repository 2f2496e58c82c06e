-- What is left passes where the whole does.
use Rattle.std.proofs.Common.{◌≡◌, map, length}
use Rattle.monad_lang.specs.CodeProgram.{start_of}
use Rattle.monad_lang.specs.Form.{start_has}
use Rattle.monad_lang.proofs.forms.starts_pass.Given as goal

abbrev pub invariant-along : goal.invariant-along
invariant-along g l = start_has (g.T.Test.holds l.test) (map start_of l.rest) ≡ start_has (g.T.Test.holds l.test) (map start_of l.starts)

abbrev pub decreases-along : goal.decreases-along
decreases-along g l = length l.rest
