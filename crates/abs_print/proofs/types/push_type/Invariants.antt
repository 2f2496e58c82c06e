-- What is written, the type that is left, and the endings put aside are the whole.
use Rattle.std.proofs.Common.{◌≡◌, ◌++◌}
use Rattle.c_values.specs.declared.types.CType.{size-CType}
use Rattle.c_values.specs.CodeTypes.{type_of}
use Rattle.abs_print.specs.Expressions.{type_text}
use Rattle.abs_print.specs.CodeEndings.{endings_text}
use Rattle.abs_print.proofs.types.push_type.Given as goal

abbrev pub invariant-down : goal.invariant-down
invariant-down l = l.out.items ++ (type_text (type_of l.inner) ++ endings_text l.endings.items) ≡ l.fn.out.items ++ type_text (type_of l.fn.t)

abbrev pub decreases-down : goal.decreases-down
decreases-down l = size-CType l.inner
