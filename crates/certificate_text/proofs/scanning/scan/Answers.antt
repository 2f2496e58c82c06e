use Rattle.std.proofs.Common.{◌∙◌}
use Rattle.certificate_text.specs.CertificateText.{certificate_tree}
use Rattle.certificate_text.specs.CertificateIndex.{index_of}
use Rattle.certificate_text.specs.CodeIndex.{index_in}
use Rattle.certificate_text.proofs.TextRead.{only_memory, not_text_is_no_memory, deep_is_no_memory, deep_is_text}
use Rattle.certificate_text.proofs.IndexRead.{index_found, index_only, not_refused, refused_only, fault_told}
use Rattle.certificate_text.proofs.scanning.scan.Goals as goal

pub returns-in_err-index-in-Ok-clause-only : goal.returns-in_err-index-in-Ok-clause-only
returns-in_err-index-in-Ok-clause-only c = λ d is.
    let these = c.in-Ok.ensures.only (certificate_tree d) is.0.atoms is.0.depth is.0.spelled in
    let none = not_refused d c.args.bytes.now c.in_err-index-in-Ok.field-0.0 is (c.in_err-index-in-Ok.ensures (certificate_tree d) is.0 (c.deref.ensures.value ∙ these)) in
    refused_only index_in c.from_residual.result c.in_err-index-in-Ok.field-0.0 (index_of d) c.from_residual.ensures.1 none

pub returns-in_err-index-in-Ok-clause-fault : goal.returns-in_err-index-in-Ok-clause-fault
returns-in_err-index-in-Ok-clause-fault c = fault_told c.from_residual.result c.args.bytes.now c.in-Ok.parts.items c.in_err-index-in-Ok.field-0.0 c.from_residual.ensures.1 c.in-Ok.ensures.found (λ t is these. c.in_err-index-in-Ok.ensures t is (c.deref.ensures.value ∙ these))

pub returns-in_ok-index-in-Ok-clause-found : goal.returns-in_ok-index-in-Ok-clause-found
returns-in_ok-index-in-Ok-clause-found c = index_found c.args.bytes.now c.in-Ok.parts.items (index_in c.in_ok-index-in-Ok.index) _ c.in-Ok.ensures.found (λ t is these. c.in_ok-index-in-Ok.ensures t is (c.deref.ensures.value ∙ these))

pub returns-in_ok-index-in-Ok-clause-only : goal.returns-in_ok-index-in-Ok-clause-only
returns-in_ok-index-in-Ok-clause-only c = λ d is.
    let these = c.in-Ok.ensures.only (certificate_tree d) is.0.atoms is.0.depth is.0.spelled in
    index_only d c.args.bytes.now (index_in c.in_ok-index-in-Ok.index) _ is (c.in_ok-index-in-Ok.ensures (certificate_tree d) is.0 (c.deref.ensures.value ∙ these))

pub returns-in-Err-NotText-clause-only : goal.returns-in-Err-NotText-clause-only
returns-in-Err-NotText-clause-only c = λ d is. not_text_is_no_memory c.in-Err-NotText.field-0 c.in-Err-NotText.field-0-0 c.in-Err-NotText.field-0-is (only_memory c.args.bytes.now c.in-Err-NotText.field-0 d c.in-Err-NotText.ensures.only is)

pub returns-in-Err-Deep-clause-only : goal.returns-in-Err-Deep-clause-only
returns-in-Err-Deep-clause-only c = λ d is. deep_is_no_memory c.in-Err-Deep.field-0 c.in-Err-Deep.field-0-0 c.in-Err-Deep.field-0-is (only_memory c.args.bytes.now c.in-Err-Deep.field-0 d c.in-Err-Deep.ensures.only is)

pub returns-in-Err-Deep-clause-no_text : goal.returns-in-Err-Deep-clause-no_text
returns-in-Err-Deep-clause-no_text c = λ at is. deep_is_text c.in-Err-Deep.field-0 c.in-Err-Deep.field-0-0 at c.in-Err-Deep.field-0-is (c.in-Err-Deep.ensures.no_text at is)
