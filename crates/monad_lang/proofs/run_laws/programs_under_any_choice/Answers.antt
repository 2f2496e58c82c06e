use Rattle.monad_lang.proofs.Filled.{runs_included, functions_included, program_included}
use Rattle.monad_lang.proofs.run_laws.programs_under_any_choice.Goals as goal

pub returns : goal.returns
returns c = record {
  calls = λ u k n d i. program_included u k n d i;
  programs = λ u k n d m env s. runs_included u.layout k m env d _ _ (functions_included u k n) s;
}
