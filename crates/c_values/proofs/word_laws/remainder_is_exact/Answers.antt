use Rattle.c_values.proofs.WordResults.{unsigned_remainder, signed_remainder}
use Rattle.c_values.proofs.word_laws.remainder_is_exact.Goals as goal

pub returns-clause-unsigned : goal.returns-clause-unsigned
returns-clause-unsigned c width a b some h k = unsigned_remainder width a b h k

pub returns-clause-signed : goal.returns-clause-signed
returns-clause-signed c width a b some h k = signed_remainder width some a b h
