-- What is left of the types is the same as what is left of the parameters exactly where all are.
use Rattle.std.proofs.Common.{◌≡◌, length, map}
use Rattle.c_values.specs.CodeTypes.{type_of}
use Rattle.typing_declarations.specs.CodeParameters.{parameter_of}
use Rattle.typing_rules.specs.Functions.{same_types, types}
use Rattle.typing_declarations.proofs.signatures.same_types.Given as goal

abbrev pub invariant-loop-ty : goal.invariant-loop-ty
invariant-loop-ty l =
    same_types (map type_of l.types) (types (map parameter_of l.params))
    ≡ same_types (map type_of l.initial.types) (types (map parameter_of l.initial.params))

abbrev pub decreases-loop-ty : goal.decreases-loop-ty
decreases-loop-ty l = length l.types
