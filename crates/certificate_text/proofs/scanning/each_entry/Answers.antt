use Rattle.expression_text.specs.Lists.{list_at}
use Rattle.expression_text.specs.Reading.{made}
use Rattle.certificate_text.specs.CertificateReading.{function_at}
use Rattle.certificate_text.specs.CertificateIndex.{entries_from}
use Rattle.certificate_text.proofs.Entries.{entries_more, entries_refused}
use Rattle.certificate_text.proofs.IndexRead.{told}
use Rattle.certificate_text.proofs.scanning.each_entry.Goals as goal

pub returns-in_err-entry : goal.returns-in_err-entry
returns-in_err-entry c = λ start ts there.
    let whole = made (entries_from start) (list_at function_at c.args.at ts) in
    let fault = c.in_err-entry.field-0.0 in
    told _ c.from_residual.result fault whole c.from_residual.ensures.1 (
    entries_refused c.args.text.now c.parts.entries.items c.parts.rest.now c.in-Some.others.now c.in-Some.part.now c.parts.here fault whole c.in-Some.ensures.cases.0 c.in_err-entry.ensures (c.parts.invariant start ts there)
    )

pub parts-preserved : goal.parts-preserved
parts-preserved c = λ start ts there.
    entries_more c.args.text.now c.parts.entries.items c.push.new.self.items c.in_ok-entry.entry c.parts.rest.now c.in-Some.others.now c.in-Some.part.now c.parts.here c.in_ok-entry.behind (made (entries_from start) (list_at function_at c.args.at ts))
    c.in-Some.ensures.cases.0 c.in_ok-push.ensures.items c.in_ok-entry.ensures (c.parts.invariant start ts there)
