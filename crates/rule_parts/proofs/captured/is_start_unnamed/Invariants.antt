-- None of those that are left is in it where none of all is.
use Rattle.std.proofs.Common.{◌≡◌, map, length}
use Rattle.expression_lang.specs.CodeExpression.{exp_of}
use Rattle.ac_expr.specs.Lasting.{is_unnamed}
use Rattle.monad_lang.specs.Run.{start_names}
use Rattle.monad_lang.specs.CodeProgram.{start_of}
use Rattle.rule_parts.proofs.captured.is_start_unnamed.Given as goal

abbrev pub invariant-along : goal.invariant-along
invariant-along l =
    is_unnamed (start_names (map start_of l.rest)) (exp_of l.e) ≡ is_unnamed (start_names (map start_of l.starts)) (exp_of l.e)

abbrev pub decreases-along : goal.decreases-along
decreases-along l = length l.rest
