use Rattle.generation.proofs.LocalNames.{locals_are_different}
use Rattle.generation.proofs.laws.generated_locals_are_different.Goals as goal

pub returns : goal.returns
returns c = locals_are_different
