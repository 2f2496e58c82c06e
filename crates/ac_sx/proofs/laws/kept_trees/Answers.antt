use Rattle.ac_sx.proofs.OneNumber.{tree_kept}
use Rattle.ac_sx.proofs.laws.kept_trees.Goals as goal

pub returns : goal.returns
returns c = tree_kept
