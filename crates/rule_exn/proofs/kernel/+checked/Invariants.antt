-- What is left to check decides: its answer is that of the whole.
use Rattle.std.proofs.Common.{◌≡◌, ◌≤◌, ℕ, true, Result}
use Rattle.simpl_lang.specs.declared.command.Simpl.{size-Simpl}
use Rattle.simpl_lang.specs.CodeCommand.{simpl_of}
use Rattle.rule_trees.specs.RuleTree.{Checked}
use Rattle.rule_exn.specs.Quiet.{quiet}
use Rattle.rule_exn.specs.Rule.{◌to◌}
use Rattle.rule_exn.specs.Table.{table}
use Rattle.rule_exn.specs.CodeRule.{tree_of}
use Rattle.rule_exn.proofs.kernel.+checked.Given as goal

abbrev pub invariant-along : goal.invariant-along
invariant-along l = record {
  decides : (r : Result ℕ ℕ) → Checked table (tree_of l.tree) (simpl_of l.left to simpl_of l.right) l.at r → Checked table (tree_of l.initial.tree) (simpl_of l.initial.left to simpl_of l.initial.right) l.initial.at r;
  quiet : l.known_quiet ≡ true → quiet (simpl_of l.left) ≡ true;
  smaller : size-Simpl l.left ≤ size-Simpl l.initial.left;
}

abbrev pub decreases-along : goal.decreases-along
decreases-along l = size-Simpl l.left

abbrev pub decreases-checked : goal.decreases-checked
decreases-checked l = size-Simpl l.left.now
