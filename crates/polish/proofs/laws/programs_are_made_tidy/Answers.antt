use Rattle.polish.proofs.Translated.{polished_is_tidy, translation_is_tidy}
use Rattle.polish.proofs.laws.programs_are_made_tidy.Goals as goal

pub returns : goal.returns
returns c = record {
  polished = λ at laid m given g. polished_is_tidy at laid m given g;
  translated = λ at laid m given g. translation_is_tidy at laid m given g;
}
