use Rattle.word_abstract.proofs.Deciding.{decided}
use Rattle.word_abstract.proofs.ranges.same.Goals as goal

pub returns : goal.returns
returns c = decided _ _ _ c.same.ensures
