use Rattle.acceptance.proofs.UnitVerdicts.{unit_verdicts_decide, unit_verdicts_are_one}
use Rattle.acceptance.proofs.laws.unit_verdicts_decide.Goals as goal

pub returns : goal.returns
returns c = record { decided = unit_verdicts_decide; one = unit_verdicts_are_one }
