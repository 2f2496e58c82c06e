use Rattle.generated_texts.proofs.UnitTexts.{generated_has_texts}
use Rattle.generated_texts.proofs.laws.generated_units_have_texts.Goals as goal

pub returns : goal.returns
returns c = generated_has_texts
