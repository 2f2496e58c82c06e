use Rattle.pipeline.proofs.LiftedForHeaps.{lifted_ready, locals_lifted_ready}
use Rattle.pipeline.proofs.heap_ready.ready_commands_are_lifted_ready.Goals as goal

pub returns : goal.returns
returns c = record {
  part = lifted_ready;
  body = locals_lifted_ready;
}
