-- The parts so far are the trees of the numbers so far.
use Rattle.std.proofs.Common.{◌≡◌, take}
use Rattle.ac_sx.specs.Table.{trees_of, trees_at}
use Rattle.ac_sx.specs.CodeSx.{trees_in}
use Rattle.ac_sx.specs.CodeTermReader.{numbers}
use Rattle.ac_sx.proofs.terms.Terms.+tree.Given as goal

abbrev pub decreases-tree : goal.decreases-tree
decreases-tree l = l.id.0

abbrev pub invariant-loop-id : goal.invariant-loop-id
invariant-loop-id l = trees_in l.parts.items ≡ trees_at (trees_of l.self) (take l.id-index (numbers l.id-items))
