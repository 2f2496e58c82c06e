use Rattle.rule_exn.proofs.UnitsAlike.{units_run_alike}
use Rattle.rule_exn.proofs.laws.taken_units_run_alike.Goals as goal

pub returns : goal.returns
returns c = units_run_alike
