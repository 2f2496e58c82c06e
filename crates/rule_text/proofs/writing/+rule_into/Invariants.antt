-- The ends of the lists that are open, behind what is left, are those of the tree; in a list, what is written, the parts left and the last
-- are the node's.
use Rattle.std.proofs.Common.{◌≡◌, ◌≤◌, ◌<◌, ◌+◌, length, vec_len}
use Rattle.ac_sx.specs.Writing.{written}
use Rattle.program_text.specs.CodeWriting.{lists_left}
use Rattle.rule_trees.specs.CodeTree as code
use Rattle.rule_trees.specs.CodeNodes.{nodes, nodes_in}
use Rattle.rule_text.specs.CodeWriting.{text_in}
use Rattle.rule_text.proofs.Written.{left_in}
use Rattle.rule_text.proofs.writing.+rule_into.Given as goal

abbrev pub decreases-rule_into : goal.decreases-rule_into
decreases-rule_into g l = nodes (code.tree_of (λ r. r) l.tree.now)

abbrev pub invariant-along : goal.invariant-along
invariant-along g l = record {
  same :
      lists_left g.W.TreeWriter.writing l.lists.items (written g.W.TreeWriter.writing (g.W.TreeWriter.state l.out) (text_in g.R.RuleText.its_word g.R.RuleText.its_data l.rest))
      ≡ written g.W.TreeWriter.writing (g.W.TreeWriter.state l.fn.out) (text_in g.R.RuleText.its_word g.R.RuleText.its_data l.fn.tree);
  smaller : nodes (code.tree_of (λ r. r) l.rest) ≤ nodes (code.tree_of (λ r. r) l.fn.tree);
}

abbrev pub decreases-along : goal.decreases-along
decreases-along g l = nodes (code.tree_of (λ r. r) l.rest)

abbrev pub invariant-parts : goal.invariant-parts
invariant-parts g l = record {
  same :
      lists_left g.W.TreeWriter.writing l.lists.items (left_in g.R.RuleText.its_word g.R.RuleText.its_data g.W.TreeWriter.writing l.left l.last (g.W.TreeWriter.state l.out))
      ≡ written g.W.TreeWriter.writing (g.W.TreeWriter.state l.fn.out) (text_in g.R.RuleText.its_word g.R.RuleText.its_data l.fn.tree);
  smaller : nodes_in (code.trees_in (λ r. r) l.left) + nodes (code.tree_of (λ r. r) l.last) < nodes (code.tree_of (λ r. r) l.fn.tree);
}

abbrev pub decreases-parts : goal.decreases-parts
decreases-parts g l = length l.left

abbrev pub invariant-back : goal.invariant-back
invariant-back g l =
    lists_left g.W.TreeWriter.writing l.lists.items (g.W.TreeWriter.state l.out)
    ≡ written g.W.TreeWriter.writing (g.W.TreeWriter.state l.fn.out) (text_in g.R.RuleText.its_word g.R.RuleText.its_data l.fn.tree)

abbrev pub decreases-back : goal.decreases-back
decreases-back g l = vec_len l.lists
