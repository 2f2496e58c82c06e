use Rattle.monad_lang.proofs.Continues.{runs_continue, functions_continue, program_continues}
use Rattle.monad_lang.proofs.run_laws.programs_continue.Goals as goal

pub returns : goal.returns
returns c = record {
  calls = program_continues;
  programs = λ u p m n h d e k a env s. runs_continue u.layout p a env d e k _ _ (functions_continue u p m n h) s;
}
