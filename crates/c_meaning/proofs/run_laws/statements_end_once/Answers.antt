use Rattle.c_meaning.proofs.OneEnd.{picks_once, statement_once, functions_once, call_once}
use Rattle.c_meaning.proofs.run_laws.statements_end_once.Goals as goal

pub returns : goal.returns
returns c = record {
  calls = call_once;
  statements = λ u levels k n depth t e s m. statement_once t (picks_once k t e) s depth _ (functions_once u levels k n) m;
}
