-- The parts of the list are those that it is made of.
use Rattle.ac_sx.proofs.Listed.{list_tree}
use Rattle.ac_sx.proofs.sx.Sx.list.Goals as goal

pub returns : goal.returns
returns c = list_tree c.args.parts
