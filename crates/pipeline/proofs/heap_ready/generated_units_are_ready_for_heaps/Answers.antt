use Rattle.pipeline.proofs.UnitsForHeaps.{generates_ready}
use Rattle.pipeline.proofs.heap_ready.generated_units_are_ready_for_heaps.Goals as goal

pub returns : goal.returns
returns c = generates_ready
