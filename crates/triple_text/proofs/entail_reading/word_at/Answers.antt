use Rattle.triple_text.proofs.EntailRows.{leaf_refused}
use Rattle.triple_text.proofs.entail_reading.word_at.Goals as goal

pub returns-in-None : goal.returns-in-None
returns-in-None c = leaf_refused c.args.at c.args.word.now c.in-None.ensures.none
