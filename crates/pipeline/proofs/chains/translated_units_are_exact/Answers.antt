use Rattle.pipeline.proofs.TranslatedExact.{translated_are_programs, translated_is_exact, translated_by_default}
use Rattle.pipeline.proofs.chains.translated_units_are_exact.Goals as goal

pub returns : goal.returns
returns c = record {
  programs = translated_are_programs;
  exact = translated_is_exact;
  default = translated_by_default;
}
