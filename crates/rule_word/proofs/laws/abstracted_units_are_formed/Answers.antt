use Rattle.rule_word.proofs.UnitsFormed.{units_formed}
use Rattle.rule_word.proofs.laws.abstracted_units_are_formed.Goals as goal

pub returns : goal.returns
returns c = units_formed
