-- The names of the index are those of the certificate.
use Rattle.std.proofs.Common.{◌≡◌, Err, None, sym, ap, ap₂, ◌∙◌}
use Rattle.std.proofs.lemmas.Result.{IfOk-weaker}
use Rattle.simpl_lang.specs.CodeCommand.{simpl_unit_of}
use Rattle.certificate_text.specs.CodeIndex.{index_in}
use Rattle.checking.specs.CodeRefused.{answer_of, refused_of}
use Rattle.checking.specs.Refused.{names_apart}
use Rattle.checking.proofs.Answered.{answer_apart, answer_judged, answers_decide}
use Rattle.checking.proofs.Indexed.{code_apart, apart_there}
use Rattle.checking.proofs.OneText.{one_index}
use Rattle.checking.proofs.texts.check_telling.Goals as goal

pub check_each-requires-clause-listed : goal.check_each-requires-clause-listed
check_each-requires-clause-listed g c = λ d is.
    sym (apart_there c.args.index.now d (one_index c.args.bytes.now (index_in c.args.index.now) d c.requires.scanned is) c.args.u.now.functions.items)
    ∙ sym (ap₂ code_apart c.deref.ensures.value c.deref-2.ensures.value) ∙ sym c.in-None.ensures

pub returns-in-Some-clause-answer : goal.returns-in-Some-clause-answer
returns-in-Some-clause-answer g c = λ d is.
    answer_apart (simpl_unit_of c.args.u.now) d.functions c.in-Some.at c.in-Some._name.now
    (sym (apart_there c.args.index.now d (one_index c.args.bytes.now (index_in c.args.index.now) d c.requires.scanned is) c.args.u.now.functions.items)
    ∙ sym (ap₂ code_apart c.deref.ensures.value c.deref-2.ensures.value) ∙ sym c.in-Some.ensures)
    (Err (refused_of c.at_names.result)) (ap (λ r. Err r) c.at_names.ensures)

pub returns-in-Some-clause-decided : goal.returns-in-Some-clause-decided
returns-in-Some-clause-decided g c = λ d is.
    answers_decide (simpl_unit_of c.args.u.now) d.functions (Err (refused_of c.at_names.result)) (returns-in-Some-clause-answer g c d is)

pub returns-in-None-clause-answer : goal.returns-in-None-clause-answer
returns-in-None-clause-answer g c = λ d is.
    let none : names_apart (simpl_unit_of c.args.u.now) d.functions ≡ None =
    sym (apart_there c.args.index.now d (one_index c.args.bytes.now (index_in c.args.index.now) d c.requires.scanned is) c.args.u.now.functions.items)
    ∙ sym (ap₂ code_apart c.deref.ensures.value c.deref-2.ensures.value) ∙ sym c.in-None.ensures in
    IfOk-weaker c.check_each.result _ _ (λ r. answer_judged (simpl_unit_of c.args.u.now) d.functions none (answer_of r)) (c.check_each.ensures d is)

pub returns-in-None-clause-decided : goal.returns-in-None-clause-decided
returns-in-None-clause-decided g c = λ d is.
    IfOk-weaker c.check_each.result _ _ (λ r. answers_decide (simpl_unit_of c.args.u.now) d.functions (answer_of r)) (returns-in-None-clause-answer g c d is)
