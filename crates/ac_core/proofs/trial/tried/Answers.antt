-- What is generated at the levels by default, and the certificate that is made of it.
use Rattle.std.proofs.Common.{length, map, refl, sym, subst, ap, ◌∙◌, arith}
use Rattle.c_values.specs.CodeTypes as types
use Rattle.c_lang.specs.CodeTyped.{unit_of}
use Rattle.simpl_lang.specs.Command.{SimplUnit}
use Rattle.simpl_lang.specs.CodeCommand.{simpl_unit_of}
use Rattle.unit_translation.specs.CodeTranslated.{AllReadyToLift}
use Rattle.unit_translation.proofs.ReadyToLift.{generated_are_ready}
use Rattle.unit_translation.proofs.LevelsThere.{levels_of, are_levels}
use Rattle.acceptance.specs.CodeCertificate.{steps_of}
use Rattle.acceptance.specs.Accepted.{IsAccepted}
use Rattle.certificate_text.specs.CertificateText.{Two, certificate_text}
use Rattle.text_answers.proofs.WellTyped.{well_typed}
use Rattle.ac_core.proofs.NamedLevels.{named_levels}
use Rattle.ac_core.proofs.Tried.{well_formed, is_accepted, tries, no_error, lines_of}
use Rattle.ac_core.proofs.trial.tried.Goals as goal

pub translate_functions-requires : goal.translate_functions-requires
translate_functions-requires g c =
    let u = c.args.unit.now in
    let typed = well_typed (types.target_of c.args.target) (unit_of u) c.requires in
    let levels = levels_of u c.in_ok-modes.modes in
    let is = c.in_ok-generated.ensures.generated levels (are_levels u c.in_ok-modes.modes typed c.in_ok-modes.ensures.one_each) in
    record { ready = subst (λ (g : SimplUnit). AllReadyToLift g.functions g.signatures) (sym is) (generated_are_ready (unit_of u) typed levels) }

pub check_functions-requires : goal.check_functions-requires
check_functions-requires g c =
    let u = c.args.unit.now in
    let typed = well_typed (types.target_of c.args.target) (unit_of u) c.requires in
    let levels = levels_of u c.in_ok-modes.modes in
    let default' = named_levels u c.in_ok-modes.modes _ _ _ _ typed c.in_ok-modes.ensures.one_each c.in_ok-modes.ensures.defaults refl refl in
    let is = c.in_ok-generated.ensures.generated levels (are_levels u c.in_ok-modes.modes typed c.in_ok-modes.ensures.one_each) in
    well_formed (types.target_of c.args.target) (unit_of u) c.requires levels default' (simpl_unit_of c.in_ok-generated.generated) is (sym c.has_few_locals.ensures ∙ c.if-not-has_few_locals.false)

pub unreachable-requires : goal.unreachable-requires
unreachable-requires g c =
    let u = c.args.unit.now in
    let typed = well_typed (types.target_of c.args.target) (unit_of u) c.requires in
    let levels = levels_of u c.in_ok-modes.modes in
    let default' = named_levels u c.in_ok-modes.modes _ _ _ _ typed c.in_ok-modes.ensures.one_each c.in_ok-modes.ensures.defaults refl refl in
    let is = c.in_ok-generated.ensures.generated levels (are_levels u c.in_ok-modes.modes typed c.in_ok-modes.ensures.one_each) in
    no_error c.check_functions.result (simpl_unit_of c.in_ok-generated.generated) (map steps_of c.deref.result.now)
    (sym c.is_err.ensures.value ∙ c.if-is_err.true) c.check_functions.ensures.decided
    (subst (IsAccepted (simpl_unit_of c.in_ok-generated.generated)) (sym (ap (map steps_of) c.deref.ensures.value ∙ c.in_ok-functions.ensures))
    (is_accepted (types.target_of c.args.target) (unit_of u) c.requires levels default' (simpl_unit_of c.in_ok-generated.generated) is (sym c.has_few_locals.ensures ∙ c.if-not-has_few_locals.false)))

pub returns : goal.returns
returns g c =
    let u = c.args.unit.now in
    let typed = well_typed (types.target_of c.args.target) (unit_of u) c.requires in
    let levels = levels_of u c.in_ok-modes.modes in
    let default' = named_levels u c.in_ok-modes.modes _ _ _ _ typed c.in_ok-modes.ensures.one_each c.in_ok-modes.ensures.defaults refl refl in
    let is = c.in_ok-generated.ensures.generated levels (are_levels u c.in_ok-modes.modes typed c.in_ok-modes.ensures.one_each) in
    tries (types.target_of c.args.target) (unit_of u) c.requires levels default' (simpl_unit_of c.in_ok-generated.generated) is (sym c.has_few_locals.ensures ∙ c.if-not-has_few_locals.false)
    c.in_ok-lines.lines.items
    (c.in_ok-lines.ensures ∙ lines_of c.in_ok-generated.generated.functions.items c.deref-2.result.now _ _ c.deref-2.ensures.value
    (omega (arith, c.len.ensures, c.in_ok-text.text.ok) ∙ ap length (c.in_ok-text.ensures ∙ ap (λ cs. certificate_text (record { version = Two (types.target_of c.args.target); functions = cs })) c.in_ok-functions.ensures)))
