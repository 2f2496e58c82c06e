use Rattle.std.proofs.Common.{[]}
use Rattle.c_values.proofs.Listed.{parts_listed}
use Rattle.c_values.proofs.zero_values.no_parts.Goals as goal

pub returns : goal.returns
returns c = parts_listed c.new.result [] c.new.ensures.items
