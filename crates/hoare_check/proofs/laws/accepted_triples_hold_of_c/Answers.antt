use Rattle.hoare_check.proofs.AcceptedOfC.{accepted_of_c}
use Rattle.hoare_check.proofs.laws.accepted_triples_hold_of_c.Goals as goal

pub returns : goal.returns
returns c u levels a ts of_unit exact formed steady accepted = accepted_of_c u levels a of_unit exact formed steady ts accepted
