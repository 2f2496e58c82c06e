use Rattle.word_abstract.proofs.Deciding.{decided}
use Rattle.word_abstract.proofs.ranges.denied_gives.Goals as goal

pub returns : goal.returns
returns c = decided _ _ _ c.is_denied.ensures
