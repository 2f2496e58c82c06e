use Rattle.rule_local.proofs.Least.{loop_least}
use Rattle.rule_local.proofs.laws.loops_hand_on_the_least.Goals as goal

pub returns : goal.returns
returns c = loop_least
