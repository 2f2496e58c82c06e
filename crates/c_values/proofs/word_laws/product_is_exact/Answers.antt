use Rattle.std.proofs.Common.{◌*ℤ◌}
use Rattle.c_values.specs.Word.{unsigned}
use Rattle.c_values.proofs.WordResults.{unsigned_exact, signed_product}
use Rattle.c_values.proofs.word_laws.product_is_exact.Goals as goal

pub returns-clause-unsigned : goal.returns-clause-unsigned
returns-clause-unsigned c width a b some h k = unsigned_exact width a (unsigned a *ℤ unsigned b) h

pub returns-clause-signed : goal.returns-clause-signed
returns-clause-signed c width a b some h k = signed_product width some a b h k
