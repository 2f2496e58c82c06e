-- The part that is left begins where the whole does.
use Rattle.std.proofs.Common.{◌≡◌}
use Rattle.c_grammar.specs.CodeTree.{exp_of}
use Rattle.typing_rules.specs.Expressions.{first}
use Rattle.typing_expressions.proofs.expressions.first.Given as goal

abbrev pub invariant-loop-left : goal.invariant-loop-left
invariant-loop-left l = first (exp_of l.left) ≡ first (exp_of l.fn.e)
