-- From here the rest of the way leads where the whole way leads from the root.
use Rattle.std.proofs.Common.{◌≡◌, length, reverse}
use Rattle.rule_trees.specs.CodeTree.{tree_of}
use Rattle.refused_parts.specs.CodeWalks.{walked}
use Rattle.refused_parts.proofs.walks.at_way.Given as goal

abbrev pub invariant-down : goal.invariant-down
invariant-down g l =
    walked g.R.Inside.goes_on (tree_of g.R.Inside.rule l.at) (g.R.Inside.seen l.part) (reverse l.rest)
    ≡ walked g.R.Inside.goes_on (tree_of g.R.Inside.rule l.fn.tree) (g.R.Inside.seen l.fn.left) (reverse l.fn.way)

abbrev pub decreases-down : goal.decreases-down
decreases-down g l = length l.rest
