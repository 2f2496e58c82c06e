use Rattle.rule_eq.proofs.Standing.{taken_does_same}
use Rattle.rule_eq.proofs.laws.taken_is_exact.Goals as goal

pub returns : goal.returns
returns c = taken_does_same
