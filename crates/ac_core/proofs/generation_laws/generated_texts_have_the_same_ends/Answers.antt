use Rattle.generation.proofs.ExactUnits.{generated_has_same_ends}
use Rattle.typing_laws.proofs.SpelledTexts.{texts_are_written}
use Rattle.typing_laws.proofs.Whole.{typed_units_are_well_typed}
use Rattle.ac_core.proofs.generation_laws.generated_texts_have_the_same_ends.Goals as goal

pub returns : goal.returns
returns c text ts xs t u short tokens spelled typed = generated_has_same_ends u (typed_units_are_well_typed t xs u (texts_are_written text ts xs short tokens spelled) typed)
