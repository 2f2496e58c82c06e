-- What is left grows lighter.
use Rattle.simpl_lang.specs.CodeWeight.{weight}
use Rattle.simpl_lang.proofs.command.Simpl.drop.Given as goal

abbrev pub decreases-loop-self : goal.decreases-loop-self
decreases-loop-self l = weight l.self
