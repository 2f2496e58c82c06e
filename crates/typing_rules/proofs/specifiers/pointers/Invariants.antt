-- As many stars stand around the type as were counted.
use Rattle.std.proofs.Common.{◌≡◌}
use Rattle.c_values.specs.CodeTypes.{type_of}
use Rattle.typing_rules.specs.Declarations.{pointers}
use Rattle.typing_rules.proofs.specifiers.pointers.Given as goal

abbrev pub invariant-loop : goal.invariant-loop
invariant-loop l = type_of l.pointer ≡ pointers l.counter (type_of l.fn.ty)
