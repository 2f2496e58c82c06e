use Rattle.std.proofs.Common.{subst, ap, ◌∙◌}
use Rattle.ac_sx.specs.CodeSx.{tree_of, trees_in}
use Rattle.expression_text.specs.CodeFault.{Gives}
use Rattle.acceptance.specs.CodeCertificate.{steps_of}
use Rattle.certificate_text.specs.CertificateReading.{function_from, function_row}
use Rattle.certificate_text.proofs.Parted.{two_first}
use Rattle.certificate_text.proofs.function_reading.function_row.Goals as goal

pub returns : goal.returns
returns c =
    subst (λ r. Gives steps_of c.function_from.result r)
    (ap (function_from c.args.at (tree_of c.in-Some.name.now) (tree_of c.in-Some-first.level.now)) c.in-Some-parts_in.ensures
    ∙ ap (function_row c.args.at) (two_first (trees_in c.args.parts.now) (trees_in c.in-Some.others.now) (trees_in c.in-Some-first.steps.now) (tree_of c.in-Some.name.now) (tree_of c.in-Some-first.level.now) c.in-Some.ensures.parts c.in-Some-first.ensures.parts))
    c.function_from.ensures
