-- The parts that were passed have fewer nodes than are looked for.
use Rattle.std.proofs.Common.{◌-◌, ◌<◌, length}
use Rattle.rule_trees.specs.CodeNodes.{nodes, nodes_in}
use Rattle.rule_trees.specs.declared.tree.Tree.{out-Tree}
use Rattle.refused_parts.specs.CodeWays.{shape_of}
use Rattle.refused_parts.proofs.Searching.{ArePassed, shapes_in}
use Rattle.refused_parts.proofs.ways.+looked_for.Given as goal

abbrev pub decreases-looked_for : goal.decreases-looked_for
decreases-looked_for g l = nodes (shape_of l.tree.now)

abbrev pub invariant-parts : goal.invariant-parts
invariant-parts g l = record {
  so_far : ArePassed (out-Tree g.row.R.Denot l.tree).parts.items l.rest (l.node - 1) l.left l.at;
  smaller : nodes_in (shapes_in l.rest) < nodes (shape_of l.tree);
}

abbrev pub decreases-parts : goal.decreases-parts
decreases-parts g l = length l.rest
