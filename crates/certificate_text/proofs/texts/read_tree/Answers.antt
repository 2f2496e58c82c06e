use Rattle.ac_sx.specs.CodeSx.{tree_of}
use Rattle.certificate_text.specs.CodeCertificate.{certificate_of}
use Rattle.certificate_text.proofs.ReadBack.{found, only, not_refused}
use Rattle.certificate_text.proofs.texts.read_tree.Goals as goal

pub returns-in-Ok-clause-found : goal.returns-in-Ok-clause-found
returns-in-Ok-clause-found c = found (tree_of c.args.tree.now) (certificate_of c.in-Ok.certificate) _ c.in-Ok.ensures

pub returns-in-Ok-clause-only : goal.returns-in-Ok-clause-only
returns-in-Ok-clause-only c = λ d is. only (tree_of c.args.tree.now) (certificate_of c.in-Ok.certificate) _ d c.in-Ok.ensures is

pub returns-in-Err-clause-only : goal.returns-in-Err-clause-only
returns-in-Err-clause-only c = λ d is. not_refused d (tree_of c.args.tree.now) c.in-Err.fault c.in-Err.ensures is
