use Rattle.pipeline.proofs.GeneratedForHeaps.{commands_ready, whole_ready}
use Rattle.generation.specs.Generate.{commands}
use Rattle.pipeline.proofs.heap_ready.generated_commands_are_ready.Goals as goal

pub returns : goal.returns
returns c = λ g level lifted around ss result typed. whole_ready g level lifted result (commands g.layout level ss) (commands_ready g level lifted around ss typed)
