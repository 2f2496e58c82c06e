-- What is left has the indexes that the path has.
use Rattle.std.proofs.Common.{◌≡◌}
use Rattle.expression_lang.specs.CodeExpression.{path_of}
use Rattle.ac_expr.specs.Heads.{path_children}
use Rattle.ac_expr.proofs.heads_alike.first_index.Given as goal

abbrev pub invariant-steps : goal.invariant-steps
invariant-steps l = path_children (path_of l.rest) ≡ path_children (path_of l.path)
