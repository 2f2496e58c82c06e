-- What is left to check decides: its answer is that of the whole.
use Rattle.std.proofs.Common.{◌≤◌, ℕ, Result, map, string_bytes}
use Rattle.simpl_lang.specs.CodeCommand.{simpl_of}
use Rattle.monad_lang.specs.declared.program.Mon.{size-Mon}
use Rattle.monad_lang.specs.CodeProgram.{mon_of}
use Rattle.rule_trees.specs.RuleTree.{Checked}
use Rattle.rule_local.specs.CodeRow.{claim, table_of}
use Rattle.rule_local.specs.CodeRule.{tree_of, context_of}
use Rattle.rule_local.proofs.kernel.+checked.Given as goal

abbrev pub invariant-along : goal.invariant-along
invariant-along l = record {
  decides : (r : Result ℕ ℕ) →
      Checked (table_of l.asks (context_of l.context)) (tree_of l.tree) (claim (simpl_of l.left) (mon_of l.right) (map string_bytes l.outputs) l.is_whole) l.at r →
      Checked (table_of l.asks (context_of l.context)) (tree_of l.initial.tree) (claim (simpl_of l.initial.left) (mon_of l.initial.right) (map string_bytes l.initial.outputs) l.initial.is_whole) l.initial.at r;
  smaller : size-Mon l.right ≤ size-Mon l.initial.right;
}

abbrev pub decreases-along : goal.decreases-along
decreases-along l = size-Mon l.right

abbrev pub decreases-checked : goal.decreases-checked
decreases-checked l = size-Mon l.right.now
