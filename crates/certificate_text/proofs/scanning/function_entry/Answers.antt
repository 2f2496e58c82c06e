use Rattle.std.proofs.Common.{string_bytes, subst}
use Rattle.ac_sx.specs.CodeSx.{tree_of}
use Rattle.acceptance.specs.CodeCertificate.{steps_of}
use Rattle.expression_text.specs.CodeFault.{Fails}
use Rattle.expression_text.specs.Reading.{made}
use Rattle.certificate_text.specs.CertificateReading.{function_at}
use Rattle.certificate_text.specs.CertificateIndex.{entry_at}
use Rattle.certificate_text.specs.CodeIndex.{entry_of}
use Rattle.certificate_text.proofs.Entries.{entry_made, fails_made}
use Rattle.certificate_text.proofs.IndexRead.{told}
use Rattle.certificate_text.proofs.scanning.function_entry.Goals as goal

pub returns-in_err-steps : goal.returns-in_err-steps
returns-in_err-steps c = λ start t is.
    let fault = c.in_err-steps.field-0.0 in
    let bad = subst (λ u. Fails fault (function_at c.args.at u)) (c.in_ok-tree.ensures start t is) c.in_err-steps.ensures in
    told entry_of c.from_residual-in_err-steps.result fault (made (entry_at start) (function_at c.args.at t)) c.from_residual-in_err-steps.ensures.1 (fails_made (entry_at start) (function_at c.args.at t) fault bad)

pub returns : goal.returns
returns c = λ start t is.
    entry_made c.args.text.now start c.args.at c.in_ok-steps.behind c.args.part t (tree_of c.in_ok-tree.tree) (steps_of c.in_ok-steps.steps) (string_bytes c.in_ok-clone.field-0) is (c.in_ok-tree.ensures start t is) c.in_ok-steps.ensures c.in_ok-clone.ensures.cases
