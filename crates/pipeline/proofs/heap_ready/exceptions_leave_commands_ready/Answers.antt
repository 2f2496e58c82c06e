use Rattle.pipeline.proofs.EliminatedForHeaps.{eliminated_ready}
use Rattle.pipeline.proofs.heap_ready.exceptions_leave_commands_ready.Goals as goal

pub returns : goal.returns
returns c = eliminated_ready
