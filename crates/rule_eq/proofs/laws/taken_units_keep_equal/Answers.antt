use Rattle.rule_eq.proofs.UnitsKeep.{units_keep}
use Rattle.rule_eq.proofs.laws.taken_units_keep_equal.Goals as goal

pub returns : goal.returns
returns c = units_keep
