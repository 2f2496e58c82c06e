-- The last programs of a certificate that is accepted for what generation makes of a well-typed unit are exact.
use Rattle.std.proofs.Common.{List}
use Rattle.c_values.specs.Name.{Name}
use Rattle.expression_lang.specs.Sort.{Level}
use Rattle.c_lang.specs.Typed.{TypedUnit}
use Rattle.c_lang.specs.WellTyped.{IsWellTyped}
use Rattle.generation.specs.Generate.{generated}
use Rattle.exactness.specs.Exact.{IsExact}
use Rattle.pipeline.proofs.TakenExact.{taken_is_exact}
use Rattle.acceptance.specs.Certificate.{Steps}
use Rattle.acceptance.specs.Accepted.{IsAccepted}
use Rattle.pipeline.specs.Units.{flat_unit, local_unit, heap_unit, word_unit, last_unit}
use Rattle.pipeline.proofs.AcceptedTaken.{accepted_units_are_taken}

pub accepted_is_exact : (u : TypedUnit) → IsWellTyped u → (levels : Name → Level) (cs : List Steps) →
    IsAccepted (generated u levels) cs → IsExact u levels (last_unit (generated u levels) cs)
accepted_is_exact u typed levels cs h =
    let g = generated u levels in
    taken_is_exact u levels g (flat_unit g cs) (local_unit g cs) (heap_unit g cs) (word_unit g cs) (last_unit g cs)
    (accepted_units_are_taken u levels cs typed h)
