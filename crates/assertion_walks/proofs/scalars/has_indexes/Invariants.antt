-- What is left of the path has its indexes where the path has them.
use Rattle.std.proofs.Common.{◌↔◌}
use Rattle.c_values.specs.Layout.{shape_of}
use Rattle.c_values.specs.CodeTypes.{type_of}
use Rattle.expression_lang.specs.CodeExpression.{path_of}
use Rattle.assertion_walks.specs.Written.{HasIndexes}
use Rattle.assertion_walks.proofs.scalars.has_indexes.Given as goal

abbrev pub invariant-steps : goal.invariant-steps
invariant-steps l =
    HasIndexes (path_of l.rest) (shape_of l.l (type_of l.whole)) ↔ HasIndexes (path_of l.path) (shape_of l.l (type_of l.t))
