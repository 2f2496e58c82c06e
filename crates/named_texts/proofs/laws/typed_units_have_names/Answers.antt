use Rattle.typing_laws.proofs.SpelledTexts.{texts_are_written}
use Rattle.named_texts.proofs.Units as units
use Rattle.named_texts.proofs.laws.typed_units_have_names.Goals as goal

pub returns : goal.returns
returns c = record {
  trees = units.typed_units_have_names;
  texts = λ text ts t xs u short h k e. units.typed_units_have_names t xs u (texts_are_written text ts xs short h k) e;
}
