use Rattle.typing_laws.proofs.SpelledTexts as spelled
use Rattle.typing_laws.proofs.laws.texts_are_written.Goals as goal

pub returns : goal.returns
returns c = spelled.texts_are_written
