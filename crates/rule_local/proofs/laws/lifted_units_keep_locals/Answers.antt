use Rattle.rule_local.proofs.UnitsKeep.{units_keep_locals}
use Rattle.rule_local.proofs.laws.lifted_units_keep_locals.Goals as goal

pub returns : goal.returns
returns c = units_keep_locals
