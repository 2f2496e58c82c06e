-- Where the loop along a sequence stands; and each part of a tree has fewer nodes.
use Rattle.std.proofs.Common.{◌+◌, ◌*◌}
use Rattle.monad_lang.specs.CodeProgram.{mon_of}
use Rattle.monad_sorts.specs.CodeInside.{setting_in, scalars_in, no_names}
use Rattle.rule_trees.specs.CodeNodes.{nodes}
use Rattle.rule_eq.specs.CodeRule.{tree_of, known_in}
use Rattle.rule_eq.proofs.States.{Start, State}
use Rattle.rule_eq.proofs.kernel.+checking.Given as goal

abbrev pub invariant-checked-along : goal.invariant-checked-along
invariant-checked-along l =
    let start : Start = record {
      setting = setting_in l.setting no_names;
      facts = known_in l.facts;
      names = scalars_in l.inside;
      left = mon_of l.initial.left;
      right = mon_of l.whole;
      tree = l.initial.tree;
      at = l.initial.at;
    } in
    State start l.tree (mon_of l.left) (mon_of l.right) l.count l.at

abbrev pub decreases-checked-along : goal.decreases-checked-along
decreases-checked-along l = nodes (tree_of l.tree)

abbrev pub decreases-checked : goal.decreases-checked
decreases-checked l = 8 * nodes (tree_of l.tree.now) + 2

abbrev pub decreases-checked_last : goal.decreases-checked_last
decreases-checked_last l = 8 * nodes (tree_of l.tree.now) + 1

abbrev pub decreases-checked_branches : goal.decreases-checked_branches
decreases-checked_branches l = 8 * nodes (tree_of l.tree.now)

abbrev pub decreases-checked_turn : goal.decreases-checked_turn
decreases-checked_turn l = 8 * nodes (tree_of l.tree.now)

abbrev pub decreases-checked_knowing : goal.decreases-checked_knowing
decreases-checked_knowing l = 8 * nodes (tree_of l.tree.now) + 3
