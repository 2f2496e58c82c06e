use Rattle.run_lines.proofs.Examples.{swap_lines}
use Rattle.run_lines.proofs.laws.swapped_numbers.Goals as goal

pub returns : goal.returns
returns c = swap_lines
