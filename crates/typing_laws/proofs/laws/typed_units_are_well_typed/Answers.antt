use Rattle.typing_laws.proofs.SpelledTexts.{texts_are_written}
use Rattle.typing_laws.proofs.Whole as whole
use Rattle.typing_laws.proofs.laws.typed_units_are_well_typed.Goals as goal

pub returns : goal.returns
returns c = record {
  trees = whole.typed_units_are_well_typed;
  texts = λ text ts t xs u short h k e. whole.typed_units_are_well_typed t xs u (texts_are_written text ts xs short h k) e;
}
