use Rattle.generation.proofs.WellFormedUnits.{generated_is_well_formed}
use Rattle.generation.proofs.laws.generated_units_are_well_formed.Goals as goal

pub returns : goal.returns
returns c = generated_is_well_formed
