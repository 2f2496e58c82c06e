use Rattle.std.proofs.Common.{refl}
use Rattle.worked_rows.proofs.ComputedProgram
use Rattle.worked_rows.proofs.programs.midpoints.Goals as goal

pub returns : goal.returns
returns c = record {
  fails = ComputedProgram.fails _ _ refl;
  gives = ComputedProgram.gives _ _ _ refl refl;
  by_difference = ComputedProgram.gives _ _ _ refl refl;
  fails_on_negative = ComputedProgram.fails _ _ refl;
}
