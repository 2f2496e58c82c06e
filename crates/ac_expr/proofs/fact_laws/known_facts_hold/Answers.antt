use Rattle.ac_expr.proofs.KnownHolds.{known_holds}
use Rattle.ac_expr.proofs.fact_laws.known_facts_hold.Goals as goal

pub returns : goal.returns
returns c = known_holds
