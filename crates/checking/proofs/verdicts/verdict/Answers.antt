-- The names of the index are those of the certificate.
use Rattle.std.proofs.Common.{refl, sym, ap₂, ◌∙◌}
use Rattle.c_lang.specs.CodeTyped.{unit_of}
use Rattle.certificate_text.specs.CodeIndex.{index_in}
use Rattle.checking.proofs.Indexed.{typed_apart, typed_apart_there}
use Rattle.checking.proofs.Decided.{differs}
use Rattle.answers.specs.declared.status.Status.TheVariants.{No}
use Rattle.checking.proofs.OneText.{one_index}
use Rattle.checking.proofs.verdicts.verdict.Goals as goal

pub returns-in_ok-refusal-in-Some : goal.returns-in_ok-refusal-in-Some
returns-in_ok-refusal-in-Some g c = λ d is. (
  c.in_ok-refusal-in-Some.ensures.0,
  differs (unit_of c.args.unit.now) d.functions c.in-Some.at c.in-Some.name.now No c.in_ok-refusal-in-Some.field-0.lines.items
      (sym (typed_apart_there c.args.index d (one_index c.args.text.now (index_in c.args.index) d c.requires.scanned is) c.args.unit.now.functions.items)
      ∙ sym (ap₂ typed_apart c.deref.ensures.value c.deref-2.ensures.value) ∙ sym c.in-Some.ensures)
      (refl, c.in_ok-refusal-in-Some.ensures.1),
)

pub verdict_on_listed-requires-clause-listed : goal.verdict_on_listed-requires-clause-listed
verdict_on_listed-requires-clause-listed g c = λ d is.
    sym (typed_apart_there c.args.index d (one_index c.args.text.now (index_in c.args.index) d c.requires.scanned is) c.args.unit.now.functions.items)
    ∙ sym (ap₂ typed_apart c.deref.ensures.value c.deref-2.ensures.value) ∙ sym c.in-None.ensures
