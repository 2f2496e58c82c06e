use Rattle.std.proofs.Common.{rules, ◌≡◌, ◌+◌, ℕ, ◌∷◌, ◌||◌, length, map, ap, subst, ◌∙◌}
use Rattle.c_values.specs.Name.{Name}
use Rattle.expression_lang.specs.CodeSignature.{binder_of}
use Rattle.expression_lang.specs.Signature.{names_of}
use Rattle.rule_local.specs.CodeMarks.{is_marked, IsAt}
use Rattle.rule_local.proofs.Marked as marked
use Rattle.rule_local.proofs.passing.passing.Goals as goal

pub returns-in_default : goal.returns-in_default
returns-in_default g c =
    let none : length c.places.rest.now ≡ 0 = search rules in
    λ i y h. marked.all_passed (g.T.NameTest.holds c.args.test.now) (names_of (map binder_of c.args.window.now)) c.places.place c.places.found.bits
    (λ j z a. marked.none_there binder_of c.places.rest.now none j z (c.places.invariant.along j z a)) c.places.invariant.before i y h.at

pub places-preserved : goal.places-preserved
places-preserved g c =
    let test : Name → _ = g.T.NameTest.holds c.args.test.now in
    let whole = names_of (map binder_of c.args.window.now) in
    let first = (binder_of c.in-Some.binder.now).name in
    let others = names_of (map binder_of c.in-Some.others.now) in
    let more : c.places.rest.now ≡ c.in-Some.binder.now ∷ c.in-Some.others.now = search rules in
    let along : (i : ℕ) (y : Name) → IsAt whole (c.places.place + i) y → IsAt (first ∷ others) i y = λ i y a. subst (λ bs. IsAt (names_of (map binder_of bs)) i y) more (c.places.invariant.along i y a) in
    let passes : c.holds.result ≡ test first = ◌∙◌ {b = test c.as_str.result.now} c.holds.ensures (ap test c.as_str.ensures.value) in
    let there : is_marked c.with-found.result.bits c.places.place ≡ (is_marked c.places.found.bits c.places.place || test first) =
    ◌∙◌ {b = is_marked c.places.found.bits c.places.place || c.holds.result} c.with-found.ensures.there (ap (λ b. is_marked c.places.found.bits c.places.place || b) passes) in
    let before = c.places.invariant.before in
    let behind = c.places.invariant.behind in
    record {
      along = marked.along_next test whole first others c.places.place c.places.found.bits c.with-found.result.bits along before behind there c.with-found.ensures.others;
      before = marked.before_next test whole first others c.places.place c.places.found.bits c.with-found.result.bits along before behind there c.with-found.ensures.others;
      behind = marked.behind_next test whole first others c.places.place c.places.found.bits c.with-found.result.bits along before behind there c.with-found.ensures.others;
    }
