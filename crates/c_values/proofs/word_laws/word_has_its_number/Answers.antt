use Rattle.c_values.proofs.WordValues.{unsigned-word, signed-word}
use Rattle.c_values.proofs.word_laws.word_has_its_number.Goals as goal

pub returns-clause-unsigned : goal.returns-clause-unsigned
returns-clause-unsigned c width n h r = unsigned-word width n r

pub returns-clause-signed : goal.returns-clause-signed
returns-clause-signed c = signed-word
