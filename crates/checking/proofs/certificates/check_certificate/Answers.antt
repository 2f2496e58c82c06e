-- The names of the code's functions are those of the certificate's.
use Rattle.std.proofs.Common.{◌≡◌, List, map, Err, None, sym, ap, ap₂, subst, ◌∙◌}
use Rattle.std.specs.Prelude.{string_bytes}
use Rattle.simpl_lang.specs.CodeCommand.{simpl_fn_of, simpl_unit_of}
use Rattle.simpl_lang.specs.declared.units.SimplFn as G
use Rattle.acceptance.specs.CodeCertificate.{steps_of}
use Rattle.acceptance.specs.declared.certificate.Steps as S
use Rattle.checking.specs.Checked.{listed_apart, names_in}
use Rattle.checking.specs.Refused.{generated_names, names_apart, AreAtLevels, IsJudged}
use Rattle.checking.specs.CodeRefused.{answer_of, refused_of}
use Rattle.checking.proofs.Answered.{answer_apart, answer_judged, answers_decide}
use Rattle.checking.proofs.Named.{simpl_names, steps_names}
use Rattle.checking.proofs.certificates.check_certificate.Goals as goal

apart_is : (fs gs : List G.SimplFn) (cs ds : List S.Steps) → fs ≡ gs → cs ≡ ds →
    listed_apart 0 (map (λ (f : G.SimplFn). string_bytes f.name) fs) (map (λ (c : S.Steps). string_bytes c.name) cs)
    ≡ listed_apart 0 (generated_names (map simpl_fn_of gs)) (names_in (map steps_of ds))
apart_is fs gs cs ds p q =
    ap₂ (listed_apart 0) (simpl_names fs ∙ ap (λ (xs : List G.SimplFn). generated_names (map simpl_fn_of xs)) p)
    (steps_names cs ∙ ap (λ (xs : List S.Steps). names_in (map steps_of xs)) q)

pub check_listed-requires-clause-at_levels : goal.check_listed-requires-clause-at_levels
check_listed-requires-clause-at_levels c =
    subst (λ (cs : List S.Steps). AreAtLevels (simpl_unit_of c.args.u.now) (map steps_of cs)) (sym c.deref-in-None.ensures.value) c.requires.at_levels

pub check_listed-requires-clause-listed : goal.check_listed-requires-clause-listed
check_listed-requires-clause-listed c =
    subst (λ (cs : List S.Steps). names_apart (simpl_unit_of c.args.u.now) (map steps_of cs) ≡ None) (sym c.deref-in-None.ensures.value)
    (sym (apart_is _ _ _ _ c.deref.ensures.value c.deref-2.ensures.value) ∙ sym c.in-None.ensures)

pub returns-in-Some-clause-answer : goal.returns-in-Some-clause-answer
returns-in-Some-clause-answer c =
    answer_apart (simpl_unit_of c.args.u.now) (map steps_of c.args.c.now.functions.items) c.in-Some.at c.in-Some._name.now
    (sym (apart_is _ _ _ _ c.deref.ensures.value c.deref-2.ensures.value) ∙ sym c.in-Some.ensures)
    (Err (refused_of c.at_names.result)) (ap (λ r. Err r) c.at_names.ensures)

pub returns-in-Some-clause-decided : goal.returns-in-Some-clause-decided
returns-in-Some-clause-decided c =
    answers_decide (simpl_unit_of c.args.u.now) (map steps_of c.args.c.now.functions.items) (Err (refused_of c.at_names.result)) (returns-in-Some-clause-answer c)

pub returns-in-None-clause-answer : goal.returns-in-None-clause-answer
returns-in-None-clause-answer c =
    answer_judged (simpl_unit_of c.args.u.now) (map steps_of c.args.c.now.functions.items)
    (sym (apart_is _ _ _ _ c.deref.ensures.value c.deref-2.ensures.value) ∙ sym c.in-None.ensures) (answer_of c.check_listed.result)
    (subst (λ (cs : List S.Steps). IsJudged (simpl_unit_of c.args.u.now) (map steps_of cs) (answer_of c.check_listed.result)) c.deref-in-None.ensures.value
    c.check_listed.ensures)

pub returns-in-None-clause-decided : goal.returns-in-None-clause-decided
returns-in-None-clause-decided c =
    answers_decide (simpl_unit_of c.args.u.now) (map steps_of c.args.c.now.functions.items) (answer_of c.check_listed.result) (returns-in-None-clause-answer c)
