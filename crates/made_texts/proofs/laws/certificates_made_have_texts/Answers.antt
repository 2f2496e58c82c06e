use Rattle.made_texts.proofs.MadeTexts.{unit_texts, generated_texts}
use Rattle.made_texts.proofs.laws.certificates_made_have_texts.Goals as goal

pub returns : goal.returns
returns c = record {
  accepted = λ same u v formed text accepted. unit_texts same u formed text accepted;
  made = λ same is_same finds u typed levels calls text v. generated_texts same is_same finds u typed levels calls text;
}
