-- What is left of both types is the same where they are.
use Rattle.std.proofs.Common.{◌≡◌}
use Rattle.c_values.specs.Types.{same_type}
use Rattle.c_values.specs.CodeTypes.{type_of}
use Rattle.c_values.proofs.type_equality.same_type.Given as goal

abbrev pub invariant-loop-left : goal.invariant-loop-left
invariant-loop-left l = same_type (type_of l.left) (type_of l.right) ≡ same_type (type_of l.fn.t) (type_of l.fn.u)
