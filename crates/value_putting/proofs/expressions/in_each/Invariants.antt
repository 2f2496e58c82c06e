-- What is made so far, and what becomes of what is left, are all.
use Rattle.std.proofs.Common.{◌≡◌, ◌++◌, length, map}
use Rattle.expression_lang.specs.CodeExpression.{exp_of}
use Rattle.program_facts.specs.Substituted.{each_substituted}
use Rattle.value_putting.proofs.expressions.in_each.Given as goal

abbrev pub invariant-along : goal.invariant-along
invariant-along l =
    map exp_of l.new.items ++ each_substituted l.name (exp_of l.value) (map exp_of l.rest)
    ≡ each_substituted l.name (exp_of l.value) (map exp_of l.exps)

abbrev pub decreases-along : goal.decreases-along
decreases-along l = length l.rest
