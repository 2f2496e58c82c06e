-- What is left grows lighter.
use Rattle.monad_lang.specs.CodeWeight.{weight}
use Rattle.monad_lang.proofs.program.Mon.drop.Given as goal

abbrev pub decreases-loop-self : goal.decreases-loop-self
decreases-loop-self l = weight l.self
