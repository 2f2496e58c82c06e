use Rattle.simpl_lang.proofs.Continues.{execs_continue, functions_continue, call_continues}
use Rattle.simpl_lang.proofs.run_laws.commands_continue.Goals as goal

pub returns : goal.returns
returns c = record {
  calls = call_continues;
  commands = λ u p m n h d e k locals a s. execs_continue u.layout p locals a d e k _ _ (functions_continue u p m n h) s;
}
