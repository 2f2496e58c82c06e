use Rattle.pipeline.proofs.ReadyBytes.{ready_is_bytes}
use Rattle.pipeline.proofs.heap_ready.ready_programs_are_on_bytes.Goals as goal

pub returns : goal.returns
returns c = ready_is_bytes
