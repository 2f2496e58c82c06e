use Rattle.c_values.proofs.WordValues.{word-unsigned, word-signed}
use Rattle.c_values.proofs.word_laws.word_of_its_values.Goals as goal

pub returns-clause-unsigned : goal.returns-clause-unsigned
returns-clause-unsigned c width a h w = word-unsigned width a w

pub returns-clause-signed : goal.returns-clause-signed
returns-clause-signed c width a h w = word-signed width a w
