use Rattle.ac_sx.specs.CodeSx.{tree_of, word_in}
use Rattle.expression_lang.specs.CodeExpression.{level_of}
use Rattle.certificate_text.specs.CertificateText.{level_word, levels}
use Rattle.certificate_text.proofs.Parted.{found_from, levels_found}
use Rattle.certificate_text.proofs.function_reading.level_in.Goals as goal

pub returns : goal.returns
returns c = found_from level_word levels level_of c.in_ok-word.field-0.now (word_in (tree_of c.args.tree.now)) c.level_named.result levels_found c.in_ok-word.ensures c.level_named.ensures.some c.level_named.ensures.none
