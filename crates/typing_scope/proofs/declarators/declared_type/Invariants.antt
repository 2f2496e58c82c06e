-- The arrays of the lengths that are left, around the type so far.
use Rattle.std.proofs.Common.{◌≡◌, length}
use Rattle.c_values.specs.CodeTypes.{type_of}
use Rattle.typing_rules.specs.Declarations.{arrays, pointers}
use Rattle.typing_scope.proofs.declarators.declared_type.Given as goal

abbrev pub invariant-loop-length : goal.invariant-loop-length
invariant-loop-length l = arrays l.outer (type_of l.ty) ≡ arrays l.lengths (pointers l.stars (type_of l.base))

abbrev pub decreases-loop-length : goal.decreases-loop-length
decreases-loop-length l = length l.outer
