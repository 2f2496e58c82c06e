use Rattle.ac_sx.specs.CodeSx.{tree_of}
use Rattle.acceptance.specs.CodeCertificate.{steps_of}
use Rattle.certificate_text.proofs.Located.{function_found}
use Rattle.certificate_text.proofs.function_texts.function_in.Goals as goal

pub returns-in-Ok : goal.returns-in-Ok
returns-in-Ok c = λ f is same. function_found (tree_of c.args.tree.now) f (steps_of c.in-Ok.function) c.in-Ok._behind is same c.in-Ok.ensures
