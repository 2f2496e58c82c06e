use Rattle.std.proofs.Common.{sym, ◌∙◌}
use Rattle.std.proofs.lemmas.Result.{IfOk-weaker}
use Rattle.local_lift.proofs.RowLaws.{row_at_index, row_past}
use Rattle.local_lift.proofs.changes.copy_at.Goals as goal

pub returns-then-k-rows : goal.returns-then-k-rows
returns-then-k-rows c = IfOk-weaker c.copy_of_row.result _ _ (λ r e. e ∙ sym (row_at_index c.args.k c.args.rows.now c.index-rows-k.result c.if-k-rows.true c.index-rows-k.is)) c.copy_of_row.ensures

pub returns-else-k-rows : goal.returns-else-k-rows
returns-else-k-rows c = c.new.ensures.items ∙ sym (row_past c.args.k c.args.rows.now c.if-k-rows.false)
