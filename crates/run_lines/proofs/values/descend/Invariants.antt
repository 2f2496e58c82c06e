-- What is written and what is left are the text.
use Rattle.std.proofs.Common.{◌≡◌, ◌+◌, ◌≤◌, ◌++◌}
use Rattle.ac_sx.specs.Tree.{spelling, nodes}
use Rattle.ac_sx.specs.CodeWriter.{lists_behind, nodes_behind}
use Rattle.run_lines.specs.CodeRow.{rows_in}
use Rattle.run_lines.proofs.Rows.{tree_in}
use Rattle.run_lines.proofs.values.descend.Given as goal

abbrev pub invariant-inner : goal.invariant-inner
invariant-inner l = record {
  same : (l.lines.items ++ spelling (tree_in l.layout l.inner_type l.inner)) ++ lists_behind (rows_in l.layout l.rows.items)
      ≡ (l.fn.lines.items ++ spelling (tree_in l.layout l.fn.ty l.fn.value)) ++ lists_behind (rows_in l.layout l.fn.rows.items);
  less : nodes_behind (rows_in l.layout l.rows.items) + nodes (tree_in l.layout l.inner_type l.inner) ≤ nodes_behind (rows_in l.layout l.fn.rows.items) + nodes (tree_in l.layout l.fn.ty l.fn.value);
}

abbrev pub decreases-inner : goal.decreases-inner
decreases-inner l = nodes (tree_in l.layout l.inner_type l.inner)
