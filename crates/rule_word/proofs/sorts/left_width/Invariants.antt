-- The first operand has the whole's width.
use Rattle.std.proofs.Common.{◌≡◌}
use Rattle.expression_lang.specs.CodeExpression.{exp_of}
use Rattle.rule_word.specs.LeftWidth.{left_width}
use Rattle.rule_word.specs.CodeKinds.{scope_in}
use Rattle.rule_word.proofs.sorts.left_width.Given as goal

abbrev pub invariant-firsts : goal.invariant-firsts
invariant-firsts l = left_width (scope_in l.context l.names) (exp_of l.rest) ≡ left_width (scope_in l.context l.names) (exp_of l.e)
