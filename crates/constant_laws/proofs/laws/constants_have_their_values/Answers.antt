use Rattle.constant_laws.proofs.Constants.{has_its_value}
use Rattle.constant_laws.proofs.laws.constants_have_their_values.Goals as goal

pub returns : goal.returns
returns c = has_its_value
