-- A part has fewer nodes.
use Rattle.std.proofs.Common.{◌+◌, ◌*◌}
use Rattle.rule_trees.specs.CodeNodes.{nodes}
use Rattle.triple_lang.specs.CodeEntail.{tree_of}
use Rattle.triple_text.proofs.entail_writing.+written.Given as goal

abbrev pub decreases-entail_into : goal.decreases-entail_into
decreases-entail_into g l = 2 * nodes (tree_of l.entail.now)

abbrev pub decreases-one_into : goal.decreases-one_into
decreases-one_into g l = 2 * nodes (tree_of l.part.now) + 1

abbrev pub decreases-two_into : goal.decreases-two_into
decreases-two_into g l = 2 * (nodes (tree_of l.first.now) + nodes (tree_of l.last.now)) + 1

abbrev pub decreases-split_into : goal.decreases-split_into
decreases-split_into g l = 2 * (nodes (tree_of l.first.now) + nodes (tree_of l.last.now)) + 1
