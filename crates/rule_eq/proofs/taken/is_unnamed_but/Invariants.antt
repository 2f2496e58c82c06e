-- None of those that are left but one is in it where none of all but one is.
use Rattle.std.proofs.Common.{◌≡◌, map, length, string_bytes}
use Rattle.expression_lang.specs.CodeExpression.{exp_of}
use Rattle.ac_expr.specs.Lasting.{is_unnamed}
use Rattle.rule_eq.specs.CodeTaken.{without}
use Rattle.rule_eq.proofs.taken.is_unnamed_but.Given as goal

abbrev pub invariant-along : goal.invariant-along
invariant-along l =
    is_unnamed (without l.left (map string_bytes l.rest)) (exp_of l.e)
    ≡ is_unnamed (without l.position (map string_bytes l.names)) (exp_of l.e)

abbrev pub decreases-along : goal.decreases-along
decreases-along l = length l.rest
