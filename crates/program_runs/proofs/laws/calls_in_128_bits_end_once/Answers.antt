use Rattle.program_runs.proofs.WideOneEnd.{program_once}
use Rattle.program_runs.proofs.laws.calls_in_128_bits_end_once.Goals as goal

pub returns : goal.returns
returns c = program_once
