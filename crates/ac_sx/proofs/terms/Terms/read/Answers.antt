use Rattle.std.proofs.Common.{[], ◌∷◌, ◌++◌, slice_get, ap, sym, ◌∙◌}
use Rattle.std.specs.Prelude.{option_and_then}
use Rattle.ac_sx.specs.declared.terms.TermId.{TermId}
use Rattle.ac_sx.specs.Tree.{line_end}
use Rattle.ac_sx.specs.Table.{trees_of}
use Rattle.ac_sx.proofs.Answered.{not_broken, not_deep, error_told, broken_refused, deep_refused}
use Rattle.ac_sx.proofs.Numbered.{spelt, found_term, some_term, only_term, number_within, line_not_refused}
use Rattle.ac_sx.proofs.terms.Terms.read.Goals as goal

pub returns-in_err-recognise_line-clause-only : goal.returns-in_err-recognise_line-clause-only
returns-in_err-recognise_line-clause-only c = λ tree is low same. absurd (line_not_refused c.args.bytes.now tree c.in_err-recognise_line.field-0.0 (sym c.recognise_line.ensures ∙ c.in_err-recognise_line.was) is low same)

pub returns-in_err-recognise_line-clause-fault : goal.returns-in_err-recognise_line-clause-fault
returns-in_err-recognise_line-clause-fault c = error_told c.from_residual.result (c.args.bytes.now ++ line_end ∷ []) c.in_err-recognise_line.field-0.0 c.from_residual.ensures.1 (sym c.recognise_line.ensures ∙ c.in_err-recognise_line.was)

pub returns-in_err-recognise_line-clause-no_text : goal.returns-in_err-recognise_line-clause-no_text
returns-in_err-recognise_line-clause-no_text c = λ at cause. broken_refused c.from_residual.result (c.args.bytes.now ++ line_end ∷ []) c.in_err-recognise_line.field-0.0 at c.from_residual.ensures.1 (sym c.recognise_line.ensures ∙ c.in_err-recognise_line.was) cause

pub returns-in_err-recognise_line-clause-deep : goal.returns-in_err-recognise_line-clause-deep
returns-in_err-recognise_line-clause-deep c = λ at cause. deep_refused c.from_residual.result (c.args.bytes.now ++ line_end ∷ []) c.in_err-recognise_line.field-0.0 at c.from_residual.ensures.1 (sym c.recognise_line.ensures ∙ c.in_err-recognise_line.was) cause

pub build-requires-clause-spelt : goal.build-requires-clause-spelt
build-requires-clause-spelt c = spelt c.args.bytes.now c.in_ok-recognise_line.field-0 (sym c.recognise_line.ensures ∙ c.in_ok-recognise_line.was)

pub unreachable-requires : goal.unreachable-requires
unreachable-requires c =
    let new = c.build.new.self in
    let number = ap (option_and_then (λ (id : TermId). slice_get (trees_of new) id.0)) c.in-None.is in
    some_term c.args.bytes.now c.in_ok-recognise_line.field-0 (sym c.recognise_line.ensures ∙ c.in_ok-recognise_line.was) (sym number ∙ c.in_ok-id.ensures.found)

pub returns-clause-found : goal.returns-clause-found
returns-clause-found c =
    let new = c.build.new.self in
    let number = ap (option_and_then (λ (id : TermId). slice_get (trees_of new) id.0)) c.in-Some.is in
    found_term c.args.bytes.now c.in_ok-recognise_line.field-0 (slice_get (trees_of new) c.in-Some.id.0) (sym c.recognise_line.ensures ∙ c.in_ok-recognise_line.was) (sym number ∙ c.in_ok-id.ensures.found)

pub returns-clause-within : goal.returns-clause-within
returns-clause-within c =
    let new = c.build.new.self in
    let number = ap (option_and_then (λ (id : TermId). slice_get (trees_of new) id.0)) c.in-Some.is in
    number_within c.args.bytes.now c.in_ok-recognise_line.field-0 new c.in-Some.id.0 (sym c.recognise_line.ensures ∙ c.in_ok-recognise_line.was) (sym number ∙ c.in_ok-id.ensures.found)

pub returns-clause-only : goal.returns-clause-only
returns-clause-only c = λ tree is low same.
    let new = c.build.new.self in
    let number = ap (option_and_then (λ (id : TermId). slice_get (trees_of new) id.0)) c.in-Some.is in
    only_term c.args.bytes.now tree (slice_get (trees_of new) c.in-Some.id.0) is same (sym number ∙ c.in_ok-id.ensures.found)

pub returns-clause-no_text : goal.returns-clause-no_text
returns-clause-no_text c = λ at cause. not_broken (c.args.bytes.now ++ line_end ∷ []) c.in_ok-recognise_line.field-0 at (sym c.recognise_line.ensures ∙ c.in_ok-recognise_line.was) cause

pub returns-clause-deep : goal.returns-clause-deep
returns-clause-deep c = λ at cause. not_deep (c.args.bytes.now ++ line_end ∷ []) c.in_ok-recognise_line.field-0 at (sym c.recognise_line.ensures ∙ c.in_ok-recognise_line.was) cause
