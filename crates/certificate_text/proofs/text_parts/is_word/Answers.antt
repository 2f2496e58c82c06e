use Rattle.std.proofs.Common.{sym, ◌∙◌}
use Rattle.std.proofs.lemmas.Slice.Eq.{bytes_eq-Decides}
use Rattle.certificate_text.proofs.Spelt.{spelt_word}
use Rattle.certificate_text.proofs.text_parts.is_word.Goals as goal

pub returns-clause-yes : goal.returns-clause-yes
returns-clause-yes c = λ at tree is yes. spelt_word tree c.args.word.now c.requires.word (sym is.spelt ∙ (bytes_eq-Decides _ _).0 (sym c.eq.ensures ∙ yes) ∙ c.as_bytes.ensures.value)
