use Rattle.c_values.specs.CodeTypes.{target_of}
use Rattle.ac_sx.specs.CodeSx.{tree_of, word_in}
use Rattle.certificate_text.specs.CertificateText.{target_word, targets}
use Rattle.certificate_text.proofs.Parted.{found_from, targets_found}
use Rattle.certificate_text.proofs.certificate_reading.target_in.Goals as goal

pub returns : goal.returns
returns c = found_from target_word targets target_of c.in_ok-word.field-0.now (word_in (tree_of c.args.tree.now)) c.target_named.result targets_found c.in_ok-word.ensures c.target_named.ensures.some c.target_named.ensures.none
