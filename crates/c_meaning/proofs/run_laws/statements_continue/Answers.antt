use Rattle.c_meaning.proofs.Continues.{statement_continues, functions_continue, call_continues}
use Rattle.c_meaning.proofs.run_laws.statements_continue.Goals as goal

pub returns : goal.returns
returns c = record {
  calls = call_continues;
  statements = λ u levels p m n h d e k t s a. statement_continues t s d e k _ _ (functions_continue u levels p m n h) a;
}
