-- What is left of both is the same but for the indexes where they are.
use Rattle.std.proofs.Common.{◌≡◌, ◌↔◌}
use Rattle.expression_lang.specs.CodeExpression.{path_of}
use Rattle.ac_expr.specs.Heads.{path_head}
use Rattle.ac_expr.proofs.heads_alike.same_steps.Given as goal

abbrev pub invariant-along : goal.invariant-along
invariant-along l = (path_head (path_of l.right) ≡ path_head (path_of l.left)) ↔ (path_head (path_of l.q) ≡ path_head (path_of l.p))
