-- What is made of the functions is the last unit of a certificate whose last steps make programs tidy.
use Rattle.std.proofs.Common.{◌≡◌, List, [], ◌∷◌, refl, ap, sym}
use Rattle.c_values.specs.Name.{Name}
use Rattle.expression_lang.specs.Sort.{Level}
use Rattle.expression_lang.specs.Signature.{Signature}
use Rattle.ac_expr.specs.SameExp.{same_exp}
use Rattle.ac_expr.proofs.SameExps.{exp_is}
use Rattle.ac_expr.proofs.Itself.{exp_itself}
use Rattle.simpl_lang.specs.Command.{SimplFn, SimplUnit}
use Rattle.monad_lang.specs.Program.{FinalUnit}
use Rattle.c_lang.specs.Typed.{TypedUnit}
use Rattle.c_lang.specs.WellTyped.{IsWellTyped}
use Rattle.generation.specs.Generate.{generated}
use Rattle.exactness.specs.Exact.{IsExact}
use Rattle.pipeline.specs.Ready.{CallsLifted}
use Rattle.acceptance.specs.Accepted.{IsAccepted}
use Rattle.pipeline.specs.Made.{tidy_last, all_steps_with, tidy_certificate}
use Rattle.pipeline.specs.Units.{on_numbers, functions_with, last_unit}
use Rattle.pipeline.proofs.AcceptedExact.{accepted_is_exact}
use Rattle.pipeline.proofs.MadeAccepted.{tidy_is_accepted}
use Rattle.unit_translation.specs.CodeTranslated.{last_program, last_functions}

functions_are : (u : SimplUnit) (fs : List SimplFn) (ss : List Signature) →
    functions_with on_numbers (λ c. c.equal.program) ss (all_steps_with tidy_last same_exp u fs ss) ≡ last_functions u fs ss
functions_are u [] [] = refl
functions_are u [] (s ∷ ss) = refl
functions_are u (f ∷ fs) [] = refl
functions_are u (f ∷ fs) (s ∷ ss) = ap (λ gs. on_numbers s (last_program u f s) ∷ gs) (functions_are u fs ss)

abbrev pub unit_made : SimplUnit → FinalUnit
unit_made u = record { layout = u.layout; globals = u.globals; functions = last_functions u u.functions u.signatures }

pub made_is_last : (u : SimplUnit) → unit_made u ≡ last_unit u (tidy_certificate same_exp u)
made_is_last u =
    ap (λ fs. let v : FinalUnit = record { layout = u.layout; globals = u.globals; functions = fs } in v)
    (sym (functions_are u u.functions u.signatures))

pub certificate_is_accepted : (u : TypedUnit) → IsWellTyped u → (levels : Name → Level) → CallsLifted levels u.functions →
    IsAccepted (generated u levels) (tidy_certificate same_exp (generated u levels))
certificate_is_accepted u typed levels calls = tidy_is_accepted same_exp exp_is exp_itself u typed levels calls

pub made_is_exact : (u : TypedUnit) → IsWellTyped u → (levels : Name → Level) → CallsLifted levels u.functions →
    IsExact u levels (last_unit (generated u levels) (tidy_certificate same_exp (generated u levels)))
made_is_exact u typed levels calls =
    accepted_is_exact u typed levels (tidy_certificate same_exp (generated u levels)) (certificate_is_accepted u typed levels calls)
