use Rattle.run_start.proofs.Begins.{begins}
use Rattle.run_start.proofs.laws.memories_are_begins.Goals as goal

pub returns : goal.returns
returns c = begins
