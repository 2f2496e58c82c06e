use Rattle.c_meaning.proofs.Filled.{statement_included, functions_included, call_included}
use Rattle.c_meaning.proofs.run_laws.statements_under_any_choice.Goals as goal

pub returns : goal.returns
returns c = record {
  calls = λ u levels k n d i. call_included u levels k n d i;
  statements = λ u levels k n d l level s m. statement_included l level k s d _ _ (functions_included u levels k n) m;
}
