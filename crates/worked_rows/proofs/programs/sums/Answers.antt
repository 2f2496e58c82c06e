use Rattle.std.proofs.Common.{refl}
use Rattle.worked_rows.proofs.ComputedProgram
use Rattle.worked_rows.proofs.programs.sums.Goals as goal

pub returns : goal.returns
returns c = record {
  fails = ComputedProgram.fails _ _ refl;
  fits = ComputedProgram.gives _ _ _ refl refl;
  words_wrap = ComputedProgram.gives _ _ _ refl refl;
  increment = ComputedProgram.gives _ _ _ refl refl;
  increment_fails = ComputedProgram.fails _ _ refl;
}
