-- What an accepted certificate makes: well-formed programs of the C functions, each of its level's form.
use Rattle.std.proofs.Common.{◌≡◌, true, ◌&&◌, List, [], ◌∷◌, subst, ◌∙◌}
use Rattle.std.proofs.lemmas.Bool.{and_parts}
use Rattle.c_values.specs.Name.{Name, same_name}
use Rattle.expression_lang.specs.Sort.{Level}
use Rattle.expression_lang.specs.Signature.{Signature}
use Rattle.simpl_lang.specs.Command.{SimplFn, SimplUnit}
use Rattle.simpl_lang.specs.Sorted.{are_signed, come_first, holds_result, same_level}
use Rattle.monad_lang.specs.Sorted.{IsWellFormed}
use Rattle.simpl_lang.proofs.SameKinds.{level_is}
use Rattle.rule_word.specs.Ready.{is_form_of}
use Rattle.c_lang.specs.Typed.{TypedUnit}
use Rattle.c_lang.specs.WellTyped.{IsWellTyped}
use Rattle.generation.specs.Generate.{generated}
use Rattle.generation.proofs.WellFormedUnits.{generated_is_well_formed}
use Rattle.exactness.specs.Exact.{AreProgramsOf}
use Rattle.acceptance.specs.Certificate.{Steps}
use Rattle.acceptance.specs.Accepted.{is_on_numbers, AreFunctionsAccepted, IsAccepted}
use Rattle.pipeline.specs.Units.{on_numbers, functions_with, last_unit}
use Rattle.pipeline.proofs.AcceptedTaken.{accepted_units_are_taken}
use Rattle.unit_translation.specs.Forms.{AreOfTheirForms}

forms : (u : SimplUnit) (fs : List SimplFn) (ss : List Signature) (cs : List Steps) → are_signed fs ss ≡ true →
    AreFunctionsAccepted u fs ss cs → AreOfTheirForms (functions_with on_numbers (λ c. c.equal.program) ss cs)
forms u [] [] [] h k = tt
forms u (f ∷ fs) (s ∷ ss) (c ∷ cs) h k =
    let p = and_parts (same_name f.name s.name && same_level f.level s.level && come_first s.params f.locals
    && holds_result s.result f.locals) (are_signed fs ss) h in
    let q = and_parts (same_name f.name s.name && same_level f.level s.level && come_first s.params f.locals)
    (holds_result s.result f.locals) p.0 in
    let r = and_parts (same_name f.name s.name && same_level f.level s.level) (come_first s.params f.locals) q.0 in
    let t = and_parts (same_name f.name s.name) (same_level f.level s.level) r.0 in
    let e : c.level ≡ s.level = k.0.level ∙ level_is f.level s.level t.1 in
    let g = and_parts (is_on_numbers u s c.equal.program) (is_form_of c.level c.equal.program) k.0.equal.formed in
    (subst (λ l. is_form_of l c.equal.program ≡ true) e g.1, forms u fs ss cs p.1 k.1)
forms u [] [] (c ∷ cs) h k = absurd k
forms u [] (s ∷ ss) cs h k = absurd k
forms u (f ∷ fs) [] cs h k = absurd k
forms u (f ∷ fs) (s ∷ ss) [] h k = absurd k

module _ (u : TypedUnit) (levels : Name → Level) (cs : List Steps) (typed : IsWellTyped u)
    (accepted : IsAccepted (generated u levels) cs) where
  pub last_formed : IsWellFormed (last_unit (generated u levels) cs)
  last_formed = (accepted_units_are_taken u levels cs typed accepted).last_formed

  pub last_programs : AreProgramsOf u levels (last_unit (generated u levels) cs)
  last_programs = (accepted_units_are_taken u levels cs typed accepted).programs

  pub last_forms : AreOfTheirForms (last_unit (generated u levels) cs).functions
  last_forms =
      forms (generated u levels) (generated u levels).functions (generated u levels).signatures cs
      (generated_is_well_formed u typed levels).signatures accepted
