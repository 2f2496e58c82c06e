use Rattle.hoare_check.proofs.TriplesHold.{triples_hold}
use Rattle.hoare_check.proofs.laws.accepted_triples_hold.Goals as goal

pub returns : goal.returns
returns c = triples_hold
