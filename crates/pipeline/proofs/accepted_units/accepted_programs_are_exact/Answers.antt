use Rattle.pipeline.proofs.AcceptedTaken.{accepted_units_are_taken}
use Rattle.pipeline.proofs.AcceptedExact.{accepted_is_exact}
use Rattle.pipeline.proofs.accepted_units.accepted_programs_are_exact.Goals as goal

pub returns : goal.returns
returns c = record { taken = accepted_units_are_taken; exact = accepted_is_exact }
