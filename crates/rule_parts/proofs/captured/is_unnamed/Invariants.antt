-- None of those that are left is in it where none of all is.
use Rattle.std.proofs.Common.{◌≡◌, map, length, string_bytes}
use Rattle.expression_lang.specs.CodeExpression.{exp_of}
use Rattle.ac_expr.specs.Lasting.{is_unnamed}
use Rattle.rule_parts.proofs.captured.is_unnamed.Given as goal

abbrev pub invariant-along : goal.invariant-along
invariant-along l = is_unnamed (map string_bytes l.rest) (exp_of l.e) ≡ is_unnamed (map string_bytes l.names) (exp_of l.e)

abbrev pub decreases-along : goal.decreases-along
decreases-along l = length l.rest
