-- What the code's refusals stand for.
use Rattle.std.specs.Prelude.{Result, Ok, Err}
use Rattle.acceptance.specs.Verdict as V
use Rattle.checking.specs.declared.refused.Phase as P
use Rattle.checking.specs.declared.refused.Refused as R
use Rattle.checking.specs.Refused.{Phase, Names, Asked, Refused, Answer}

abbrev pub phase_of : P.Phase → Phase
phase_of P.TheVariants.List = Names
phase_of P.TheVariants.Level = Asked V.Level
phase_of P.TheVariants.Exception = Asked V.Exception
phase_of P.TheVariants.Local = Asked V.Local
phase_of P.TheVariants.Heap = Asked V.Heap
phase_of P.TheVariants.Word = Asked V.Word
phase_of P.TheVariants.Equal = Asked V.Equal

abbrev pub refused_of : R.Refused → Refused
refused_of r = record { function = r.function; phase = phase_of r.phase; node = r.node }

abbrev pub answer_of : Result (Unit {0}) R.Refused → Answer
answer_of (Ok done) = Ok done
answer_of (Err refused) = Err (refused_of refused)
