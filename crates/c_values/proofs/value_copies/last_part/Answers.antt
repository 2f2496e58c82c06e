-- The parts of a value are those of its list.
use Rattle.std.proofs.Common.{◌∙◌, ap, sym, subst}
use Rattle.std.proofs.lemmas.List.{nil_from_length}
use Rattle.c_values.specs.Value.{Parts}
use Rattle.c_values.specs.CodeValue.{value_of}
use Rattle.c_values.specs.CodeParts.{values_in, IsLeaf}
use Rattle.c_values.proofs.Listed.{parts_value}
use Rattle.c_values.proofs.Either.{if_some, if_none}
use Rattle.c_values.proofs.value_copies.last_part.Goals as goal

pub returns-in-Parts-clause-some : goal.returns-in-Parts-clause-some
returns-in-Parts-clause-some c =
    let whole = ap value_of c.in-Parts.is ∙ parts_value c.in-Parts.parts ∙ ap (λ vs. Parts (values_in vs)) (sym c.deref.ensures.value) in
    if_some c.split_last.result _ _ _ c.split_last.ensures.cases (λ p h. whole ∙ ap (λ vs. Parts (values_in vs)) h.0)

pub returns-in-Parts-clause-none : goal.returns-in-Parts-clause-none
returns-in-Parts-clause-none c =
    let whole = ap value_of c.in-Parts.is ∙ parts_value c.in-Parts.parts ∙ ap (λ vs. Parts (values_in vs)) (sym c.deref.ensures.value) in
    if_none c.split_last.result _ _ _ c.split_last.ensures.cases
    (λ none. subst IsLeaf (sym (whole ∙ ap (λ vs. Parts (values_in vs)) (nil_from_length c.deref.result.now none))) tt)
