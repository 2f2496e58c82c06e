-- A function that is found is well-sorted.
use Rattle.std.proofs.Common.{map, inl, inr, refl, sym, ap₂, ◌∙◌}
use Rattle.std.proofs.lemmas.Bool.{false≢true}
use Rattle.monad_lang.specs.Program.{final_fn}
use Rattle.monad_lang.specs.CodeProgram.{final_fn_of, final_unit_of}
use Rattle.hoare_check.specs.CodeCalled.{assertions_of}
use Rattle.hoare_check.proofs.FunctionSorts.{found_sorted}
use Rattle.hoare_check.proofs.accepting.accepted.Goals as goal

pub are_assertions-requires-clause-sorted : goal.are_assertions-requires-clause-sorted
are_assertions-requires-clause-sorted c =
    let u = final_unit_of c.args.unit.now in
    let t = assertions_of c.args.triple.now in
    let found = ap₂ (λ fs x. final_fn (map final_fn_of fs) x) (sym c.deref.ensures.value) (sym c.as_str.ensures.value) ∙ c.in-Some.ensures.found in
    found_sorted u u.functions t.function (final_fn_of c.in-Some.function.now) c.requires.functions found

pub returns-then-not-are_assertions-clause-refused : goal.returns-then-not-are_assertions-clause-refused
returns-then-not-are_assertions-clause-refused c =
    let found = ap₂ (λ fs x. final_fn (map final_fn_of fs) x) (sym c.deref.ensures.value) (sym c.as_str.ensures.value) ∙ c.in-Some.ensures.found in
    inr (
      final_fn_of c.in-Some.function.now,
      found,
      inl ((λ h. false≢true (sym c.if-not-are_assertions.true ∙ c.are_assertions.ensures.1 h)), refl),
    )

pub derived_triple-requires-clause-sorted : goal.derived_triple-requires-clause-sorted
derived_triple-requires-clause-sorted c =
    let u = final_unit_of c.args.unit.now in
    let t = assertions_of c.args.triple.now in
    let found = ap₂ (λ fs x. final_fn (map final_fn_of fs) x) (sym c.deref.ensures.value) (sym c.as_str.ensures.value) ∙ c.in-Some.ensures.found in
    found_sorted u u.functions t.function (final_fn_of c.in-Some.function.now) c.requires.functions found
