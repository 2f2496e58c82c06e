-- What the code's verdicts on functions and units stand for.
use Rattle.std.specs.Prelude.{Result, Ok, Err}
use Rattle.acceptance.specs.declared.places.Phase as P
use Rattle.acceptance.specs.declared.places.Place as L
use Rattle.acceptance.specs.declared.places.Refusal as R
use Rattle.acceptance.specs.Verdict as V
use Rattle.acceptance.specs.Verdict.{Phase, Place, ◌at◌}
use Rattle.acceptance.specs.UnitVerdict.{Refusal, of_list, of_function}

abbrev pub phase_of : P.Phase → Phase
phase_of P.TheVariants.Level = V.Level
phase_of P.TheVariants.Exception = V.Exception
phase_of P.TheVariants.Local = V.Local
phase_of P.TheVariants.Heap = V.Heap
phase_of P.TheVariants.Word = V.Word
phase_of P.TheVariants.Equal = V.Equal

abbrev pub place_of : L.Place → Place
place_of place = phase_of place.phase at place.node

abbrev pub verdict_of : Result (Unit {0}) L.Place → Result (Unit {0}) Place
verdict_of (Ok done) = Ok done
verdict_of (Err place) = Err (place_of place)

abbrev pub refusal_of : R.Refusal → Refusal
refusal_of (R.TheVariants.List position) = of_list position
refusal_of (R.TheVariants.Function position place) = of_function position (place_of place)

abbrev pub unit_verdict_of : Result (Unit {0}) R.Refusal → Result (Unit {0}) Refusal
unit_verdict_of (Ok done) = Ok done
unit_verdict_of (Err refusal) = Err (refusal_of refusal)
