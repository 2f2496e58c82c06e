use Rattle.run_lines.proofs.Examples.{h_lines}
use Rattle.run_lines.proofs.laws.changed_struct.Goals as goal

pub returns : goal.returns
returns c = h_lines
