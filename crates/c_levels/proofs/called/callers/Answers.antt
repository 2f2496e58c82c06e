-- One caller more.
use Rattle.std.proofs.Common.{arith}
use Rattle.std.proofs.lemmas.Grind.{text_groups}
use Rattle.c_levels.proofs.called.callers.Goals as goal

pub loop-callee-preserved : goal.loop-callee-preserved
loop-callee-preserved c = grind (arith, text_groups)
