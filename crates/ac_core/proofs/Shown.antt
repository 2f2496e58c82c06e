-- What is written of a typed text: the programs of an accepted certificate, or its text.
use Rattle.std.proofs.Common.{◌≡◌, ℕ, true, false, List, None, sym, subst, ap, ◌∙◌}
use Rattle.c_values.specs.Name.{Name}
use Rattle.c_lang.specs.Typed.{TypedUnit}
use Rattle.generation.specs.Generate.{generated}
use Rattle.ac_expr.specs.SameExp.{same_exp}
use Rattle.simpl_lang.specs.Command.{SimplUnit}
use Rattle.monad_lang.specs.Program.{FinalUnit}
use Rattle.pipeline.specs.Made.{tidy_certificate}
use Rattle.pipeline.specs.Units.{last_unit}
use Rattle.certificate_text.specs.CertificateText.{certificate_text}
use Rattle.text_answers.specs.TextAnswer.{IsRead}
use Rattle.command_line.specs.Words.{bytes_names, words_names, target_of, first_unknown}
use Rattle.ac_core.specs.Written.{is_function, has_long_function, AreTranslated, AreChosen, Shows, certificate_for, Translates}
use Rattle.ac_core.specs.CodeTasks.{IsGenerated, has_few_locals}
use Rattle.text_laws.proofs.CertificateTrees.{certificate_is_tree}
use Rattle.ac_core.proofs.Translated.{accepted, translated, has_text}

module _ (options : List Name) (u : TypedUnit) (read : IsRead (target_of options) u) (g : SimplUnit) (named : first_unknown (is_function u) options ≡ None) (is : IsGenerated options u g) where
  few : has_few_locals (generated u is.levels) ≡ true
  few = subst (λ h. has_few_locals h ≡ true) is.is is.few

  chosen : AreChosen options u is.levels
  chosen = record { named = named; default = is.default; within = subst (λ h. has_long_function h ≡ false) is.is is.within }

  are : AreTranslated u is.levels (last_unit (generated u is.levels) (tidy_certificate same_exp (generated u is.levels)))
  are = translated (target_of options) u read (bytes_names options) (words_names options) is.levels is.default few

  pub shows : (w : FinalUnit → List ℕ) (programs : FinalUnit) (lines : List ℕ) → programs ≡ last_unit g (tidy_certificate same_exp g) → lines ≡ w programs → Shows options u w lines
  shows w programs lines e h = record {
    levels = is.levels;
    chosen = chosen;
    programs = programs;
    shown = subst (λ (v : FinalUnit). AreTranslated u is.levels v) (sym (e ∙ ap (λ h. last_unit h (tidy_certificate same_exp h)) is.is)) are;
    written = h;
  }

  pub translates : (lines : List ℕ) → lines ≡ certificate_text (certificate_for options (tidy_certificate same_exp g)) → Translates options u lines
  translates lines e =
      let cs = tidy_certificate same_exp (generated u is.levels) in
      let c = certificate_for options cs in
      let written : lines ≡ certificate_text c = e ∙ ap (λ h. certificate_text (certificate_for options (tidy_certificate same_exp h))) is.is in
      let text = has_text (target_of options) u read (bytes_names options) (words_names options) is.levels is.default few in
      record {
        levels = is.levels;
        chosen = chosen;
        certificate = cs;
        accepted = accepted (target_of options) u read (bytes_names options) (words_names options) is.levels is.default few;
        translated = are;
        written = written;
        read_back = λ shallow. (record { atoms = certificate_is_tree c text; spelled = written; depth = shallow }, text);
      }
