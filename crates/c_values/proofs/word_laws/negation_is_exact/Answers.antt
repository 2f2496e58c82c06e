use Rattle.c_values.proofs.WordResults.{signed_negation}
use Rattle.c_values.proofs.word_laws.negation_is_exact.Goals as goal

pub returns-clause-signed : goal.returns-clause-signed
returns-clause-signed c width a some h = signed_negation width some a h
