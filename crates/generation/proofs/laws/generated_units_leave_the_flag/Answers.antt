use Rattle.generation.proofs.FlagUnused.{generated_leaves_the_flag}
use Rattle.generation.proofs.laws.generated_units_leave_the_flag.Goals as goal

pub returns : goal.returns
returns c = λ u w levels. generated_leaves_the_flag u levels w
