use Rattle.simpl_lang.proofs.Filled.{execs_included, functions_included, call_included}
use Rattle.simpl_lang.proofs.run_laws.commands_under_any_choice.Goals as goal

pub returns : goal.returns
returns c = record {
  calls = λ u k n d i. call_included u k n d i;
  commands = λ u k n d locals a m. execs_included u.layout k locals a d _ _ (functions_included u k n) m;
}
