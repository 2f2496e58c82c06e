-- What is made so far, and what becomes of what is left, are all.
use Rattle.std.proofs.Common.{◌≡◌, ◌++◌, length, map}
use Rattle.expression_lang.specs.CodeExpression.{exp_of}
use Rattle.monad_lang.specs.CodeProgram.{start_of}
use Rattle.program_facts.specs.Substituted.{starts_substituted}
use Rattle.value_putting.proofs.expressions.in_starts.Given as goal

abbrev pub invariant-along : goal.invariant-along
invariant-along l =
    map start_of l.new.items ++ starts_substituted l.name (exp_of l.value) (map start_of l.rest)
    ≡ starts_substituted l.name (exp_of l.value) (map start_of l.starts)

abbrev pub decreases-along : goal.decreases-along
decreases-along l = length l.rest
