-- The rest of the path leads on from the type that was reached.
use Rattle.std.proofs.Common.{◌≡◌}
use Rattle.c_values.specs.Layout.{shape_of}
use Rattle.c_values.specs.CodeTypes.{type_of}
use Rattle.expression_lang.specs.CodeExpression.{path_of}
use Rattle.monad_sorts.specs.CodeTold.{shape_through}
use Rattle.monad_sorts.proofs.places.part_type.Given as goal

abbrev pub invariant-steps : goal.invariant-steps
invariant-steps l =
    shape_through (path_of l.rest) (shape_of l.l (type_of l.whole))
    ≡ shape_through (path_of l.fn.path) (shape_of l.l (type_of l.fn.t))
