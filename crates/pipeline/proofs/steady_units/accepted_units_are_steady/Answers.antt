use Rattle.pipeline.proofs.AcceptedSteady.{accepted_is_steady}
use Rattle.pipeline.proofs.steady_units.accepted_units_are_steady.Goals as goal

pub returns : goal.returns
returns c = accepted_is_steady
