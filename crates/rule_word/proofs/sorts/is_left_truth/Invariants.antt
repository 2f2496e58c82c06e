-- The first operand is a truth value where the whole is.
use Rattle.std.proofs.Common.{◌≡◌}
use Rattle.expression_lang.specs.CodeExpression.{exp_of}
use Rattle.rule_word.specs.CodeSorts.{left_truth}
use Rattle.rule_word.specs.CodeKinds.{scope_in}
use Rattle.rule_word.proofs.sorts.is_left_truth.Given as goal

abbrev pub invariant-firsts : goal.invariant-firsts
invariant-firsts l = left_truth (scope_in l.context l.names) (exp_of l.rest) ≡ left_truth (scope_in l.context l.names) (exp_of l.e)
