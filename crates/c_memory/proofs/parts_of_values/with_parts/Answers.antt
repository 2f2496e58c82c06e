use Rattle.c_values.proofs.Listed.{parts_value}
use Rattle.c_memory.proofs.parts_of_values.with_parts.Goals as goal

pub returns : goal.returns
returns c = parts_value c.args.parts
