use Rattle.narrow_units.proofs.NarrowUnits.{generated_is_narrow}
use Rattle.narrow_units.proofs.laws.generated_units_are_narrow.Goals as goal

pub returns : goal.returns
returns c = generated_is_narrow
