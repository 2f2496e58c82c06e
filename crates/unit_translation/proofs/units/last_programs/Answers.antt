-- The generated functions are ready, and what is made of them is the last unit of an accepted certificate.
use Rattle.std.proofs.Common.{◌≡◌, sym, subst, ◌∙◌, ap}
use Rattle.std.proofs.lemmas.Result.{IfOk-weaker}
use Rattle.ac_expr.specs.SameExp.{same_exp}
use Rattle.simpl_lang.specs.Command.{SimplUnit}
use Rattle.simpl_lang.specs.CodeCommand.{simpl_unit_of}
use Rattle.monad_lang.specs.Program.{FinalUnit}
use Rattle.monad_lang.specs.Sorted.{IsWellFormed}
use Rattle.c_lang.specs.CodeTyped.{unit_of}
use Rattle.generation.specs.Generate.{generated}
use Rattle.exactness.specs.Exact.{AreProgramsOf, IsExact}
use Rattle.pipeline.specs.Made.{tidy_certificate}
use Rattle.pipeline.specs.Units.{last_unit}
use Rattle.unit_translation.specs.CodeTranslated.{AllReadyToLift}
use Rattle.unit_translation.specs.Forms.{AreOfTheirForms}
use Rattle.unit_translation.proofs.ReadyToLift.{generated_are_ready}
use Rattle.unit_translation.proofs.LastUnit.{certificate_is_accepted, made_is_exact}
use Rattle.unit_translation.proofs.LevelsThere.{levels_of, are_levels}
use Rattle.unit_translation.proofs.Formed.{last_formed, last_programs, last_forms}
use Rattle.unit_translation.proofs.units.last_programs.Goals as goal

pub translate_generated-requires : goal.translate_generated-requires
translate_generated-requires c =
    let levels = levels_of c.args.u.now c.args.modes.now in
    let is : simpl_unit_of c.in_ok-generated.generated ≡ generated (unit_of c.args.u.now) levels =
    c.in_ok-generated.ensures.generated levels (are_levels c.args.u.now c.args.modes.now c.requires.typed c.requires.one_each) in
    record { ready = subst (λ (g : SimplUnit). AllReadyToLift g.functions g.signatures) (sym is) (generated_are_ready (unit_of c.args.u.now) c.requires.typed levels) }

pub returns-clause-translated : goal.returns-clause-translated
returns-clause-translated c =
    IfOk-weaker c.translate_generated.result _ _
    (λ v e levels are. e ∙ ap (λ h. last_unit h (tidy_certificate same_exp h)) (c.in_ok-generated.ensures.generated levels are))
    c.translate_generated.ensures.last

pub returns-clause-accepted : goal.returns-clause-accepted
returns-clause-accepted c =
    IfOk-weaker c.translate_generated.result _ _ (λ v e levels are calls. certificate_is_accepted (unit_of c.args.u.now) c.requires.typed levels calls) c.translate_generated.ensures.last

pub returns-clause-of_unit : goal.returns-clause-of_unit
returns-clause-of_unit c =
    IfOk-weaker c.translate_generated.result _ _
    (λ v is levels are calls.
    let u = unit_of c.args.u.now in
    let cs = tidy_certificate same_exp (generated u levels) in
    subst (λ (v : FinalUnit). AreProgramsOf u levels v) (sym (is levels are))
    (last_programs u levels cs c.requires.typed (certificate_is_accepted u c.requires.typed levels calls)))
    (returns-clause-translated c)

pub returns-clause-formed : goal.returns-clause-formed
returns-clause-formed c =
    IfOk-weaker c.translate_generated.result _ _
    (λ v is levels are calls.
    let u = unit_of c.args.u.now in
    let cs = tidy_certificate same_exp (generated u levels) in
    let accepted = certificate_is_accepted u c.requires.typed levels calls in
    subst (λ (v : FinalUnit). IsWellFormed v × AreOfTheirForms v.functions) (sym (is levels are))
    (last_formed u levels cs c.requires.typed accepted, last_forms u levels cs c.requires.typed accepted))
    (returns-clause-translated c)

pub returns-clause-exact : goal.returns-clause-exact
returns-clause-exact c =
    IfOk-weaker c.translate_generated.result _ _
    (λ v is levels are calls.
    subst (λ (v : FinalUnit). IsExact (unit_of c.args.u.now) levels v) (sym (is levels are)) (made_is_exact (unit_of c.args.u.now) c.requires.typed levels calls))
    (returns-clause-translated c)
