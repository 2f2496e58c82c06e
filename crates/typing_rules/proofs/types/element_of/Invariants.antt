-- What is left has the element of the whole.
use Rattle.std.proofs.Common.{◌≡◌}
use Rattle.c_values.specs.CodeTypes.{type_of}
use Rattle.typing_rules.specs.Declarations.{element}
use Rattle.typing_rules.proofs.types.element_of.Given as goal

abbrev pub invariant-loop-element : goal.invariant-loop-element
invariant-loop-element l = element (type_of l.element) ≡ element (type_of l.t)
