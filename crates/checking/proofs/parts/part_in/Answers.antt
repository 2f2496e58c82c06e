-- The function that is read is the refused one, and the place is that of the verdict.
use Rattle.std.proofs.Common.{◌≡◌, ◌<◌, ◌^◌, List, length, MatchOption, Option, Some, None, Err, refl, sym, subst, ap, ◌∙◌, arith}
use Rattle.std.specs.Option.{option_map}
use Rattle.std.proofs.lemmas.List.{length-map}
use Rattle.std.proofs.lemmas.Option.{slice_get-map, slice_get-get_or}
use Rattle.simpl_lang.specs.CodeCommand.{simpl_fn_of, simpl_unit_of}
use Rattle.simpl_lang.specs.declared.units.SimplUnit as S
use Rattle.acceptance.specs.Certificate.{Steps}
use Rattle.acceptance.specs.CodeCertificate.{steps_of}
use Rattle.acceptance.specs.CodePlace.{place_of}
use Rattle.refused_parts.specs.declared.parts.Part as P
use Rattle.refused_parts.specs.Parts.{IsPartAt}
use Rattle.refused_parts.specs.CodeParts.{part_of}
use Rattle.checking.specs.Refused.{Refused, names_apart, AreAtLevels, IsAnswer}
use Rattle.checking.specs.CodeRefused.{refused_of}
use Rattle.checking.proofs.Answered.{as_many}
use Rattle.checking.proofs.Indexed.{code_length}
use Rattle.checking.proofs.OneText.{fewer_than_bytes}
use Rattle.checking.proofs.RefusedPlaces.{placed, shown_some, shown_none}
use Rattle.checking.proofs.parts.part_in.Goals as goal

-- the refused function is one of the unit's
within : (u : S.SimplUnit) (cs : List Steps) (levels : AreAtLevels (simpl_unit_of u) cs) (none : names_apart (simpl_unit_of u) cs ≡ None) (few : length cs < 2 ^ 32) (r : Refused)
    (answer : IsAnswer (simpl_unit_of u) cs (Err r)) → r.function < length u.functions.items
within u cs levels none few r answer =
    let there = placed (simpl_unit_of u) cs levels none few r answer in
    let below = there.below in
    let a = length-map u.functions.items simpl_fn_of in
    let b = as_many (simpl_unit_of u) cs none in
    omega (arith, a, b, below)

pub index-function-requires : goal.index-function-requires
index-function-requires c =
    let (d, is, same) = c.requires.scanned in
    let few = fewer_than_bytes c.args.text.now d is in
    let there = within c.args.u.now d.functions (c.requires.at_levels d is) (c.requires.listed d is) (omega (arith, few, c.requires.short)) (refused_of c.args.refused) (c.requires.refused d is) in
    omega (arith, there)

pub read_function-requires-clause-within : goal.read_function-requires-clause-within
read_function-requires-clause-within c =
    let (d, is, same) = c.requires.scanned in
    let few = fewer_than_bytes c.args.text.now d is in
    let there = placed (simpl_unit_of c.args.u.now) d.functions (c.requires.at_levels d is) (c.requires.listed d is) (omega (arith, few, c.requires.short)) (refused_of c.args.refused)
    (c.requires.refused d is) in
    let below = there.below in
    let e = code_length c.args.index.now d same in
    omega (arith, e, below)

pub returns-in-Some-2 : goal.returns-in-Some-2
returns-in-Some-2 c = λ d is.
    let u = simpl_unit_of c.args.u.now in
    let k = c.args.refused.function in
    let f = simpl_fn_of c.index-function.result.now in
    let steps = steps_of c.in_ok-steps.steps in
    let place = place_of c.in-Some.place in
    let fs = c.args.u.now.functions.items in
    let few = fewer_than_bytes c.args.text.now d is in
    let there = within c.args.u.now d.functions (c.requires.at_levels d is) (c.requires.listed d is) (omega (arith, few, c.requires.short)) (refused_of c.args.refused) (c.requires.refused d is) in
    shown_some u d.functions (c.requires.at_levels d is) (c.requires.listed d is) (omega (arith, few, c.requires.short)) (refused_of c.args.refused) (c.requires.refused d is)
    place c.in-Some.ensures f steps
    (slice_get-map simpl_fn_of fs k ∙ ap (option_map simpl_fn_of) (slice_get-get_or fs k c.index-function.result.now there ∙ ap Some (sym c.index-function.ensures)))
    (c.in_ok-steps.ensures.found d is)
    (part_of c.in-Some-2.part) c.in_ok-spelt-in-Some-2.field-0.items
    (λ s v below. subst (λ (o : Option P.Part). MatchOption (option_map part_of o) ⊥ (IsPartAt u f s steps place)) c.in-Some-2.is (c.in_ok-part.ensures u f s refl v below))
    c.in_ok-spelt-in-Some-2.ensures

pub returns : goal.returns
returns c = λ d is.
    let u = simpl_unit_of c.args.u.now in
    let k = c.args.refused.function in
    let f = simpl_fn_of c.index-function.result.now in
    let steps = steps_of c.in_ok-steps.steps in
    let place = place_of c.in-Some.place in
    let fs = c.args.u.now.functions.items in
    let few = fewer_than_bytes c.args.text.now d is in
    let there = within c.args.u.now d.functions (c.requires.at_levels d is) (c.requires.listed d is) (omega (arith, few, c.requires.short)) (refused_of c.args.refused) (c.requires.refused d is) in
    shown_none u d.functions (c.requires.at_levels d is) (c.requires.listed d is) (omega (arith, few, c.requires.short)) (refused_of c.args.refused) (c.requires.refused d is)
    place c.in-Some.ensures f steps
    (slice_get-map simpl_fn_of fs k ∙ ap (option_map simpl_fn_of) (slice_get-get_or fs k c.index-function.result.now there ∙ ap Some (sym c.index-function.ensures)))
    (c.in_ok-steps.ensures.found d is)
    (λ s v below. subst (λ (o : Option P.Part). MatchOption (option_map part_of o) ⊥ (IsPartAt u f s steps place)) c.in-None.is (c.in_ok-part.ensures u f s refl v below))
