use Rattle.rule_word.proofs.UnitsKeep.{units_keep_words}
use Rattle.rule_word.proofs.laws.abstracted_units_keep_words.Goals as goal

pub returns : goal.returns
returns c = units_keep_words
