use Rattle.c_values.proofs.WordResults.{unsigned_cast, signed_cast, positive_cast}
use Rattle.c_values.proofs.word_laws.cast_keeps_the_value.Goals as goal

pub returns-clause-unsigned : goal.returns-clause-unsigned
returns-clause-unsigned c from width a some w h = unsigned_cast from width a w h

pub returns-clause-signed : goal.returns-clause-signed
returns-clause-signed c = signed_cast

pub returns-clause-unsigned_as_signed : goal.returns-clause-unsigned_as_signed
returns-clause-unsigned_as_signed c from width a some w h = positive_cast from width a w h
