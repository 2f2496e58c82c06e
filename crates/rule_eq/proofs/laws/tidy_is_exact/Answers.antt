use Rattle.rule_eq.proofs.TidyPlaces.{tidy_exactly}
use Rattle.rule_eq.proofs.laws.tidy_is_exact.Goals as goal

pub returns : goal.returns
returns c = tidy_exactly
