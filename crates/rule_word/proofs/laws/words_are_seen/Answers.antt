use Rattle.rule_word.proofs.SoundExpressions.{taken_seen}
use Rattle.rule_word.proofs.laws.words_are_seen.Goals as goal

pub returns : goal.returns
returns c = λ ctx at t left view right lay h. taken_seen ctx lay at t left view right h
