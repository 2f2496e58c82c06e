use Rattle.program_runs.proofs.Narrows.{call_narrows}
use Rattle.program_runs.proofs.laws.narrow_calls_are_calls.Goals as goal

pub returns : goal.returns
returns c = call_narrows
