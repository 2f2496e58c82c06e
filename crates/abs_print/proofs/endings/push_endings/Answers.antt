use Rattle.abs_print.proofs.Along.{ending_written}
use Rattle.abs_print.proofs.endings.push_endings.Goals as goal

pub back-preserved : goal.back-preserved
back-preserved c = ending_written _ _ _ _ _ _ c.back.invariant c.in-Some.ensures.items c.in_ok-push_ending.ensures
