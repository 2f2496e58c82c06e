use Rattle.monad_lang.proofs.OneEnd.{runs_once, functions_once, program_once}
use Rattle.monad_lang.proofs.run_laws.programs_end_once.Goals as goal

pub returns : goal.returns
returns c = record {
  calls = program_once;
  programs = λ u k n depth m env s. runs_once u.layout k m env depth _ (functions_once u k n) s;
}
