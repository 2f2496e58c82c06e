-- The generated functions are ready, and what is made of them is accepted, at their levels and tidy.
use Rattle.std.proofs.Common.{◌≡◌, List, map, sym, subst, ◌∙◌, ap}
use Rattle.ac_expr.specs.SameExp.{same_exp}
use Rattle.simpl_lang.specs.Command.{SimplUnit}
use Rattle.simpl_lang.specs.CodeCommand.{simpl_unit_of}
use Rattle.c_lang.specs.CodeTyped.{unit_of}
use Rattle.generation.specs.Generate.{generated}
use Rattle.acceptance.specs.Certificate.{Steps}
use Rattle.acceptance.specs.Accepted.{IsAccepted}
use Rattle.pipeline.specs.Made.{tidy_certificate, AreTidy}
use Rattle.pipeline.specs.Units.{last_unit}
use Rattle.pipeline.proofs.MadeAccepted.{last_are_tidy}
use Rattle.unit_translation.specs.CodeTranslated.{AllReadyToLift}
use Rattle.unit_translation.proofs.ReadyToLift.{generated_are_ready}
use Rattle.unit_translation.proofs.LastUnit.{certificate_is_accepted}
use Rattle.unit_translation.proofs.LevelsThere.{levels_of, are_levels}
use Rattle.ac_core.proofs.MadeLevels.{levels_made}
use Rattle.ac_core.proofs.certificates.translate_unit.Goals as goal

pub translate_functions-requires : goal.translate_functions-requires
translate_functions-requires c =
    let u = c.args.u.now in
    let levels = levels_of u c.args.m.now in
    let is = c.in_ok-generated.ensures.generated levels (are_levels u c.args.m.now c.requires.typed c.requires.one_each) in
    record { ready = subst (λ (g : SimplUnit). AllReadyToLift g.functions g.signatures) (sym is) (generated_are_ready (unit_of u) c.requires.typed levels) }

pub returns-clause-accepted : goal.returns-clause-accepted
returns-clause-accepted c = λ levels are calls.
    let u = unit_of c.args.u.now in
    let is : simpl_unit_of c.in_ok-generated.generated ≡ generated u levels = c.in_ok-generated.ensures.generated levels are in
    subst (λ (cs : List Steps). IsAccepted (generated u levels) cs) (sym (c.in_ok-functions.ensures ∙ ap (tidy_certificate same_exp) is))
    (certificate_is_accepted u c.requires.typed levels calls)

pub returns-clause-levels : goal.returns-clause-levels
returns-clause-levels c =
    let u = c.args.u.now in
    let levels = levels_of u c.args.m.now in
    let are = are_levels u c.args.m.now c.requires.typed c.requires.one_each in
    let is : simpl_unit_of c.in_ok-generated.generated ≡ generated (unit_of u) levels = c.in_ok-generated.ensures.generated levels are in
    ap (map (λ (s : Steps). s.level)) (c.in_ok-functions.ensures ∙ ap (tidy_certificate same_exp) is) ∙ levels_made (unit_of u) levels ∙ are

pub returns-clause-tidy : goal.returns-clause-tidy
returns-clause-tidy c = λ levels are.
    let u = unit_of c.args.u.now in
    let h = generated u levels in
    let is : simpl_unit_of c.in_ok-generated.generated ≡ h = c.in_ok-generated.ensures.generated levels are in
    subst (λ (cs : List Steps). AreTidy (last_unit h cs).functions) (sym (c.in_ok-functions.ensures ∙ ap (tidy_certificate same_exp) is))
    (last_are_tidy same_exp h h.functions h.signatures)
