use Rattle.word_abstract.proofs.Deciding.{decided}
use Rattle.word_abstract.proofs.ranges.is_high_end.Goals as goal

pub returns : goal.returns
returns c = decided _ _ _ c.is_at_most.ensures
