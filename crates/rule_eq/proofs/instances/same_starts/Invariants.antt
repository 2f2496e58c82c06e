-- What is left of both is the same where they are.
use Rattle.std.proofs.Common.{◌≡◌, ◌↔◌, map, length}
use Rattle.monad_lang.specs.CodeProgram.{start_of}
use Rattle.rule_eq.proofs.instances.same_starts.Given as goal

abbrev pub invariant-along : goal.invariant-along
invariant-along l = (map start_of l.left ≡ map start_of l.right) ↔ (map start_of l.others ≡ map start_of l.starts)

abbrev pub decreases-along : goal.decreases-along
decreases-along l = length l.left
