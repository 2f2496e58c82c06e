-- The names of the index are those of the certificate.
use Rattle.std.proofs.Common.{sym, ap₂, ◌∙◌}
use Rattle.c_values.specs.CodeTypes as types
use Rattle.c_lang.specs.CodeTyped.{unit_of}
use Rattle.certificate_text.specs.CodeIndex.{index_in}
use Rattle.checking.proofs.Indexed.{typed_apart, typed_apart_there}
use Rattle.checking.proofs.OneText.{one_index}
use Rattle.checking.proofs.PartShown.{differs}
use Rattle.checking.proofs.parts.part_by_index.Goals as goal

pub part_of_listed-requires-clause-listed : goal.part_of_listed-requires-clause-listed
part_of_listed-requires-clause-listed c = λ d is.
    sym (typed_apart_there c.args.index d (one_index c.args.text.now (index_in c.args.index) d c.requires.scanned is) c.args.unit.now.functions.items)
    ∙ sym (ap₂ typed_apart c.deref.ensures.value c.deref-2.ensures.value) ∙ sym c.in-None.ensures

pub returns-in-Some : goal.returns-in-Some
returns-in-Some c =
    let (d, is, same) = c.requires.scanned in
    differs (types.target_of c.args.target) c.args.text.now (unit_of c.args.unit.now) d is (c.in-Some._at, c.in-Some._name.now)
    (sym (typed_apart_there c.args.index d same c.args.unit.now.functions.items) ∙ sym (ap₂ typed_apart c.deref.ensures.value c.deref-2.ensures.value) ∙ sym c.in-Some.ensures)
