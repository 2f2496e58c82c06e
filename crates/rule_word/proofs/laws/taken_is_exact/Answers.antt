use Rattle.rule_word.proofs.Standing.{taken_stands}
use Rattle.rule_word.proofs.laws.taken_is_exact.Goals as goal

pub returns : goal.returns
returns c = taken_stands
