use Rattle.std.proofs.Common.{◌+ℤ◌}
use Rattle.c_values.specs.Word.{unsigned}
use Rattle.c_values.proofs.WordResults.{unsigned_exact, signed_sum}
use Rattle.c_values.proofs.word_laws.sum_is_exact.Goals as goal

pub returns-clause-unsigned : goal.returns-clause-unsigned
returns-clause-unsigned c width a b some h k = unsigned_exact width a (unsigned a +ℤ unsigned b) h

pub returns-clause-signed : goal.returns-clause-signed
returns-clause-signed c width a b some h k = signed_sum width some a b h k
