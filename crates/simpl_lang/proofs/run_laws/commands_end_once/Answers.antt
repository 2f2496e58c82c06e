use Rattle.simpl_lang.proofs.OneEnd.{execs_once, functions_once, call_once}
use Rattle.simpl_lang.proofs.run_laws.commands_end_once.Goals as goal

pub returns : goal.returns
returns c = record {
  calls = call_once;
  commands = λ u k n depth locals a m. execs_once u.layout k locals a depth _ (functions_once u k n) m;
}
