use Rattle.pipeline.proofs.UnitsForNumbers.{generates_word_ready}
use Rattle.pipeline.proofs.word_ready.generated_units_are_ready_for_numbers.Goals as goal

pub returns : goal.returns
returns c = generates_word_ready
