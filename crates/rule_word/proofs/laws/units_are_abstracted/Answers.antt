use Rattle.rule_word.specs.UnitAbstracted.{unit_abstracted}
use Rattle.rule_word.proofs.UnitTaken.{unit_taken}
use Rattle.rule_word.proofs.UnitsFormed.{units_formed}
use Rattle.rule_word.proofs.UnitsKeep.{units_keep_words}
use Rattle.rule_word.proofs.laws.units_are_abstracted.Goals as goal

pub returns : goal.returns
returns c = record {
  taken = λ same u kinds is_same formed are. unit_taken same is_same u kinds formed are;
  formed = λ same u kinds is_same formed are. units_formed u (unit_abstracted same u kinds) formed (unit_taken same is_same u kinds formed are);
  kept = λ same u kinds is_same formed are. units_keep_words u (unit_abstracted same u kinds) formed (unit_taken same is_same u kinds formed are);
}
