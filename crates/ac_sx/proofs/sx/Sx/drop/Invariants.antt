-- There is a part less in each turn.
use Rattle.ac_sx.specs.Tree.{all_nodes}
use Rattle.ac_sx.specs.CodeSx.{trees_in}
use Rattle.ac_sx.proofs.sx.Sx.drop.Given as goal

abbrev pub decreases-parts : goal.decreases-parts
decreases-parts l = all_nodes (trees_in l.parts.items)
