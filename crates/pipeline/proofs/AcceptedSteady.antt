-- The last programs of a certificate that is accepted for what generation makes of a well-typed unit
-- are a steady unit.
use Rattle.std.proofs.Common.{List}
use Rattle.c_values.specs.Name.{Name}
use Rattle.expression_lang.specs.Sort.{Level}
use Rattle.c_lang.specs.Typed.{TypedUnit}
use Rattle.c_lang.specs.WellTyped.{IsWellTyped}
use Rattle.generation.specs.Generate.{generated}
use Rattle.acceptance.specs.Certificate.{Steps}
use Rattle.acceptance.specs.Accepted.{IsAccepted}
use Rattle.pipeline.specs.Units.{flat_unit, local_unit, heap_unit, word_unit, last_unit}
use Rattle.pipeline.proofs.AcceptedTaken.{accepted_units_are_taken}
use Rattle.exactness.specs.SteadyUnits.{IsUnitSteady}
use Rattle.pipeline.proofs.LiftedCalls.{lifted_calls}
use Rattle.pipeline.proofs.TakenSteady.{last_in_range, last_is_steady}

pub accepted_is_steady : (u : TypedUnit) → IsWellTyped u → (levels : Name → Level)
    (cs : List Steps) → IsAccepted (generated u levels) cs →
    IsUnitSteady (last_unit (generated u levels) cs)
accepted_is_steady u typed levels cs h x f e =
    let g = generated u levels in
    let taken = accepted_units_are_taken u levels cs typed h in
    record {
      calls = lifted_calls u levels cs h x f e;
      in_range = λ p n depth vs s of_kinds can_be.
          last_in_range u levels g (flat_unit g cs) (local_unit g cs) (heap_unit g cs)
          (word_unit g cs) (last_unit g cs) taken x f e p n depth vs of_kinds s can_be;
      steady = λ lifted p n depth vs memory globals of_kinds can_be.
          last_is_steady u levels g (flat_unit g cs) (local_unit g cs) (heap_unit g cs)
          (word_unit g cs) (last_unit g cs) taken x f e p n depth vs of_kinds lifted memory globals
          can_be;
    }
