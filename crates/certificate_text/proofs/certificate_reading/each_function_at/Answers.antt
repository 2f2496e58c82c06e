use Rattle.ac_sx.specs.CodeSx.{trees_in}
use Rattle.acceptance.specs.CodeCertificate.{steps_of}
use Rattle.expression_text.specs.Lists.{list_at}
use Rattle.expression_text.proofs.ListsRead.{list_more}
use Rattle.certificate_text.specs.CertificateReading.{function_at}
use Rattle.certificate_text.proofs.certificate_reading.each_function_at.Goals as goal

pub parts-preserved : goal.parts-preserved
parts-preserved c =
    list_more steps_of function_at c.parts.functions.items c.push.new.self.items c.in_ok-steps.steps c.parts.here c.in_ok-steps.behind c.args.parts.now c.parts.part-index c.part-item.result (list_at function_at c.args.at (trees_in c.args.parts.now))
    c.parts-test.true c.part-item.is c.in_ok-push.ensures.items c.in_ok-steps.ensures c.parts.invariant
