-- What is made of a typed text for a trial: it is accepted, and the lines tell its numbers.
use Rattle.std.proofs.Common.{◌≡◌, ℕ, true, Result, Ok, Err, List, [], length, sym, subst, ap, ◌∙◌, map}
use Rattle.c_values.specs.Name.{Name}
use Rattle.c_values.specs.Types.{Target}
use Rattle.expression_lang.specs.Sort.{Level, Numbers, Bytes}
use Rattle.c_lang.specs.Typed.{TypedUnit}
use Rattle.c_meaning.specs.Levels.{AreDefaultLevels}
use Rattle.std.proofs.lemmas.List.{length-map}
use Rattle.simpl_lang.specs.Command.{SimplUnit}
use Rattle.simpl_lang.specs.CodeCommand.{simpl_fn_of}
use Rattle.simpl_lang.specs.declared.units.SimplFn as F
use Rattle.simpl_lang.specs.Sorted.{IsWellFormed}
use Rattle.generation.specs.Generate.{generated}
use Rattle.generation.proofs.WellFormedUnits.{generated_is_well_formed}
use Rattle.ac_expr.specs.SameExp.{same_exp}
use Rattle.core.specs.Result.{is_err}
use Rattle.acceptance.specs.Certificate.{Steps}
use Rattle.acceptance.specs.Accepted.{IsAccepted}
use Rattle.acceptance.specs.UnitVerdict.{DecidesUnit}
use Rattle.acceptance.specs.CodePlace.{unit_verdict_of}
use Rattle.acceptance.specs.declared.places.Refusal as code
use Rattle.pipeline.specs.Made.{tidy_certificate}
use Rattle.certificate_text.specs.CertificateText.{Two, certificate_text}
use Rattle.text_answers.specs.TextAnswer.{IsRead}
use Rattle.text_answers.proofs.WellTyped.{well_typed}
use Rattle.answers.specs.declared.status.Status.TheVariants.{Done}
use Rattle.ac_core.specs.Trial.{IsTried, count_at, trial_lines}
use Rattle.ac_core.specs.CodeTasks.{has_few_locals}
use Rattle.ac_core.proofs.Translated.{accepted, translated}

-- a checker's error on a certificate that is accepted
pub no_error : (r : Result (Unit {0}) code.Refusal) (g : SimplUnit) (cs : List Steps) → is_err r ≡ true → DecidesUnit g cs (unit_verdict_of r) → IsAccepted g cs → ⊥
no_error (Ok done) g cs h d a = absurd cc
no_error (Err e) g cs h d a = d a

-- the lines, by functions as the code has them
pub lines_of : (fs xs : List F.SimplFn) (n k : ℕ) → xs ≡ fs → n ≡ k →
    trial_lines (length xs) (count_at Numbers (map simpl_fn_of xs)) (count_at Bytes (map simpl_fn_of xs)) n
    ≡ trial_lines (length (map simpl_fn_of fs)) (count_at Numbers (map simpl_fn_of fs)) (count_at Bytes (map simpl_fn_of fs)) k
lines_of fs xs n k e h =
    ap (λ ys. trial_lines (length ys) (count_at Numbers (map simpl_fn_of ys)) (count_at Bytes (map simpl_fn_of ys)) n) e
    ∙ ap (λ j. trial_lines (length fs) (count_at Numbers (map simpl_fn_of fs)) (count_at Bytes (map simpl_fn_of fs)) j) h
    ∙ ap (λ l. trial_lines l (count_at Numbers (map simpl_fn_of fs)) (count_at Bytes (map simpl_fn_of fs)) k) (sym (length-map fs simpl_fn_of))

module _ (target : Target) (u : TypedUnit) (read : IsRead target u) (levels : Name → Level) (default' : AreDefaultLevels u [] [] levels) (g : SimplUnit) (is : g ≡ generated u levels) (few : has_few_locals g ≡ true) where
  few' : has_few_locals (generated u levels) ≡ true
  few' = subst (λ h. has_few_locals h ≡ true) is few

  pub well_formed : IsWellFormed g
  well_formed = subst IsWellFormed (sym is) (generated_is_well_formed u (well_typed target u read) levels)

  pub is_accepted : IsAccepted g (tidy_certificate same_exp g)
  is_accepted = subst (λ (h : SimplUnit). IsAccepted h (tidy_certificate same_exp h)) (sym is) (accepted target u read [] [] levels default' few')

  pub tries : (lines : List ℕ) →
      lines ≡ trial_lines (length g.functions) (count_at Numbers g.functions) (count_at Bytes g.functions) (length (certificate_text (record { version = Two target; functions = tidy_certificate same_exp g }))) →
      IsTried target u Done lines
  tries lines e = record {
    levels = levels;
    default = default';
    certificate = tidy_certificate same_exp (generated u levels);
    accepted = accepted target u read [] [] levels default' few';
    translated = translated target u read [] [] levels default' few';
    written = e ∙ ap (λ (h : SimplUnit). trial_lines (length h.functions) (count_at Numbers h.functions) (count_at Bytes h.functions) (length (certificate_text (record { version = Two target; functions = tidy_certificate same_exp h })))) is;
  }
