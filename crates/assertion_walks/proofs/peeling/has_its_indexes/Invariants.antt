-- What is left of both is the same where both are.
use Rattle.std.proofs.Common.{◌≡◌, ◌↔◌, length}
use Rattle.expression_lang.specs.CodeExpression.{exp_of, path_of}
use Rattle.ac_expr.specs.Heads.{path_children}
use Rattle.ac_expr.specs.CodeHeads.{children_in}
use Rattle.assertion_walks.specs.CodeRebuilt.{indexes_in}
use Rattle.assertion_walks.proofs.peeling.has_its_indexes.Given as goal

abbrev pub invariant-along : goal.invariant-along
invariant-along l =
    (indexes_in (path_of l.rest) (exp_of l.e) ≡ children_in l.ones)
    ↔ (indexes_in (path_of l.way) (exp_of l.e) ≡ path_children (path_of l.way))

abbrev pub decreases-along : goal.decreases-along
decreases-along l = length (children_in l.ones)
