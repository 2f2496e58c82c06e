-- What is left of both is as it is to be where both are.
use Rattle.std.proofs.Common.{◌≡◌, ◌↔◌, map, length}
use Rattle.expression_lang.specs.CodeExpression.{exp_of}
use Rattle.monad_lang.specs.CodeProgram.{start_of}
use Rattle.program_facts.specs.Substituted.{starts_substituted}
use Rattle.rule_eq.proofs.program_putting.are_starts_put.Given as goal

abbrev pub invariant-along : goal.invariant-along
invariant-along l =
    (map start_of l.right ≡ starts_substituted l.name (exp_of l.value) (map start_of l.left))
    ↔ (map start_of l.others ≡ starts_substituted l.name (exp_of l.value) (map start_of l.starts))

abbrev pub decreases-along : goal.decreases-along
decreases-along l = length l.left
