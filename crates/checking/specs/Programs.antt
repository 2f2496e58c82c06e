-- The last programs of a certificate that is accepted for what is generated for a C text.
use Rattle.c_values.specs.Name.{Name}
use Rattle.expression_lang.specs.Sort.{Level}
use Rattle.c_lang.specs.Typed.{TypedUnit}
use Rattle.monad_lang.specs.Program.{FinalUnit}
use Rattle.monad_lang.specs.Sorted.{IsWellFormed}
use Rattle.exactness.specs.Exact.{AreProgramsOf, IsExact}
use Rattle.exactness.specs.SteadyUnits.{IsUnitSteady}
use Rattle.unit_translation.specs.Forms.{AreOfTheirForms}

-- They are those of the C functions at their levels, exact, well-formed and each of its level's form; lifted functions call lifted ones
-- alone, and each program is in range, and steady where its function is lifted.
pub record AreExactPrograms (unit : TypedUnit) (levels : Name → Level) (v : FinalUnit) : Type 0 where
  pub of_unit : AreProgramsOf unit levels v
  pub exact : IsExact unit levels v
  pub well_formed : IsWellFormed v
  pub formed : AreOfTheirForms v.functions
  pub steady : IsUnitSteady v
