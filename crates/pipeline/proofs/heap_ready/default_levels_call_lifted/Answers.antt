use Rattle.pipeline.proofs.DefaultLevels.{default_calls_lifted}
use Rattle.pipeline.proofs.heap_ready.default_levels_call_lifted.Goals as goal

pub returns : goal.returns
returns c = λ u bytes words levels typed default'. default_calls_lifted u bytes words levels default' typed
