-- What is written and what is left are the text.
use Rattle.std.proofs.Common.{◌≡◌, ◌++◌}
use Rattle.ac_sx.specs.Tree.{spelling}
use Rattle.ac_sx.specs.CodeWriter.{lists_behind, nodes_behind}
use Rattle.run_lines.specs.CodeRow.{rows_in}
use Rattle.run_lines.proofs.Rows.{tree_in}
use Rattle.run_lines.proofs.values.push_value.Given as goal

abbrev pub invariant-rows : goal.invariant-rows
invariant-rows l = l.lines.items ++ lists_behind (rows_in l.layout l.rows.items) ≡ l.fn.lines.items ++ spelling (tree_in l.layout l.fn.ty l.fn.value)

abbrev pub decreases-rows : goal.decreases-rows
decreases-rows l = nodes_behind (rows_in l.layout l.rows.items)
