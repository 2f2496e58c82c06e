use Rattle.std.proofs.Common.{◌≡◌, suc, OnOk, rules, ap, sym, subst, ◌∙◌}
use Rattle.std.proofs.lemmas.List.{nil_from_length}
use Rattle.ac_sx.specs.Writing.{written}
use Rattle.c_values.specs.Value.{Parts}
use Rattle.c_values.specs.CodeValue.{value_of}
use Rattle.c_values.specs.CodeParts.{values_in, rank, ranks}
use Rattle.c_values.proofs.Listed.{parts_value}
use Rattle.memory_text.specs.ValueText.{value_tree}
use Rattle.memory_text.proofs.WritingValues.{values_ended}
use Rattle.memory_text.proofs.writing.+values.Goals as goal

pub value_into-parts_into-requires : goal.value_into-parts_into-requires
value_into-parts_into-requires g t c =
    let whole : rank (value_of c.args.value.now) ≡ suc (ranks (values_in c.deref.result.now)) =
    ap (λ v. rank (value_of v)) c.in-Parts.is ∙ ap rank (parts_value c.in-Parts.parts) ∙ ap (λ vs. suc (ranks (values_in vs))) (sym c.deref.ensures.value) in
    search (rules, whole)

pub value_into-returns-in-Parts : goal.value_into-returns-in-Parts
value_into-returns-in-Parts g t c =
    subst (λ v. OnOk c.parts_into.result (g.W.TreeWriter.state c.parts_into.new.out ≡ written g.W.TreeWriter.writing (g.W.TreeWriter.state c.args.out.now) (value_tree v)))
    (ap (λ vs. Parts (values_in vs)) c.deref.ensures.value ∙ sym (parts_value c.in-Parts.parts) ∙ ap value_of (sym c.in-Parts.is))
    c.parts_into.ensures

pub values_into-returns : goal.values_into-returns
values_into-returns g t c =
    values_ended g.W.TreeWriter.writing c.values.rest.now (g.W.TreeWriter.state c.values.out) _ (nil_from_length c.values.rest.now c.in_default.ensures.cases) c.values.invariant.same
