-- As long as triples are accepted, the first fault of those that are left is the first of all.
use Rattle.std.proofs.Common.{◌≡◌, List, [], ◌∷◌, length, map, refl, ap, subst}
use Rattle.monad_lang.specs.CodeProgram.{final_unit_of}
use Rattle.triple_lang.specs.CodeDeriv.{triple_of}
use Rattle.hoare_check.proofs.FirstFaults.{SoFar, none_so_far, one_more, first_here, all_so_far}
use Rattle.hoare_check.proofs.TriplesHold.{triples_hold}
use Rattle.hoare_check.proofs.verdicts.check.Goals as goal

none_left : {A : Type 0} (xs : List A) → length xs ≡ 0 → xs ≡ []
none_left [] h = refl
none_left (x ∷ xs) h = absurd cc

pub along-init : goal.along-init
along-init c = none_so_far (final_unit_of c.args.unit.now) (map triple_of c.args.triples.now)

pub along-preserved : goal.along-preserved
along-preserved c =
    let u = final_unit_of c.args.unit.now in
    let all = map triple_of c.args.triples.now in
    let so_far = subst (λ ts. SoFar u all (map triple_of ts) c.along.number) c.in-Some.ensures.cases.0 c.along.invariant in
    one_more u all (triple_of c.in-Some.triple.now) (map triple_of c.in-Some.others.now) c.along.number so_far
    c.in_default-accepted.ensures.accepted c.next-number.result c.next-number.ensures

pub returns-in-Err-clause-refused : goal.returns-in-Err-clause-refused
returns-in-Err-clause-refused c =
    let u = final_unit_of c.args.unit.now in
    let all = map triple_of c.args.triples.now in
    let so_far = subst (λ ts. SoFar u all (map triple_of ts) c.along.number) c.in-Some.ensures.cases.0 c.along.invariant in
    first_here u all (triple_of c.in-Some.triple.now) (map triple_of c.in-Some.others.now) c.along.number so_far
    c.in-Err.node c.in-Err.ensures.refused

pub returns-clause-accepted : goal.returns-clause-accepted
returns-clause-accepted c =
    all_so_far (final_unit_of c.args.unit.now) (map triple_of c.args.triples.now) (map triple_of c.along.rest.now) c.along.number c.along.invariant
    (ap (map triple_of) (none_left c.along.rest.now c.in_default.ensures.cases))

pub returns-clause-holds : goal.returns-clause-holds
returns-clause-holds c steady =
    let u = final_unit_of c.args.unit.now in
    let all = map triple_of c.args.triples.now in
    triples_hold u all c.requires steady
    (all_so_far u all (map triple_of c.along.rest.now) c.along.number c.along.invariant (ap (map triple_of) (none_left c.along.rest.now c.in_default.ensures.cases)))
