use Rattle.std.proofs.Common.{arith}
use Rattle.std.proofs.lemmas.Grind.{common_steps}
use Rattle.c_grammar.proofs.recogniser.write.Goals as goal

pub loop-token-preserved : goal.loop-token-preserved
loop-token-preserved c = (grind (arith, common_steps), grind (arith, common_steps), grind (arith, common_steps))
