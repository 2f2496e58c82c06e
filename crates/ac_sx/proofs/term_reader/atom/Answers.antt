use Rattle.std.proofs.lemmas.Str.{IsUtf8-from_ascii}
use Rattle.ac_sx.proofs.Building.{word_is_ascii}
use Rattle.ac_sx.proofs.term_reader.atom.Goals as goal

pub unreachable-requires : goal.unreachable-requires
unreachable-requires c = c.in-Err.ensures.cases.0 (IsUtf8-from_ascii _ (word_is_ascii _ c.requires.word))
