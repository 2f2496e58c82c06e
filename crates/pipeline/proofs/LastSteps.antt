-- Last steps that are accepted where the step before them is.
use Rattle.std.proofs.Common.{◌≡◌, ◌&&◌, true, [], refl, sym, subst, ap, ◌∙◌}
use Rattle.std.proofs.lemmas.Bool.{and_parts, and_from}
use Rattle.expression_lang.specs.Sort.{Level, Bytes, Words, Numbers, sort_of_kind}
use Rattle.expression_lang.specs.Signature.{Signature}
use Rattle.expression_lang.specs.Sorted.{result_scalars}
use Rattle.simpl_lang.specs.Command.{SimplUnit}
use Rattle.monad_lang.specs.Program.{Mon}
use Rattle.monad_lang.specs.Sorted.{are_scalars, scalars_given, setting_signed}
use Rattle.rule_word.specs.Ready.{is_form_of}
use Rattle.rule_eq.specs.Rule as R
use Rattle.rule_eq.specs.Table.{point, Takes}
use Rattle.rule_eq.specs.Tidy.{KeepsForms}
use Rattle.acceptance.specs.Certificate.{Step, Steps}
use Rattle.acceptance.specs.Accepted.{is_on_numbers, IsWordStep, IsEqualStep}
use Rattle.c_values.specs.Layout.{IsLayout}
use Rattle.monad_lang.proofs.Given.{given_there}
use Rattle.polish.proofs.Translated.{translation_is_tidy}
use Rattle.pipeline.specs.Made.{unchanged, begins_at, tidy_last}

form_stays : (level : Level) (m n : Mon) → KeepsForms m n → is_form_of level m ≡ true → is_form_of level n ≡ true
form_stays Bytes m n h k = h.bytes k
form_stays Words m n h k = h.heaps k
form_stays Numbers m n h k = h.numbers k

module _ (u : SimplUnit) (s : Signature) (c : Steps) where
  -- to a program that gives the same scalars and keeps its forms
  pub simpler_step : Takes (point [] (setting_signed sort_of_kind u.layout u.globals u.signatures s)) c.equal.tree
      c.word.program c.equal.program →
      scalars_given (setting_signed sort_of_kind u.layout u.globals u.signatures s) c.equal.program
      ≡ scalars_given (setting_signed sort_of_kind u.layout u.globals u.signatures s) c.word.program →
      KeepsForms c.word.program c.equal.program → IsWordStep u s c → IsEqualStep u s c
  simpler_step takes given forms h =
      let p = and_parts (is_on_numbers u s c.word.program) (is_form_of c.level c.word.program) h.formed in
      record {
        formed = and_from _ _ (ap (λ o. are_scalars (result_scalars sort_of_kind s.result) o) given ∙ p.0)
            (form_stays c.level c.word.program c.equal.program forms p.1);
        takes = takes;
      }

  -- to a tidy program
  pub tidy_step : IsLayout u.layout → c.equal ≡ tidy_last u s c.word.program → IsWordStep u s c → IsEqualStep u s c
  tidy_step laid e h =
      let at = begins_at u s in
      let p = and_parts (is_on_numbers u s c.word.program) (is_form_of c.level c.word.program) h.formed in
      let given = given_there (result_scalars sort_of_kind s.result) (scalars_given at.setting c.word.program) p.0 in
      let t = translation_is_tidy at laid c.word.program (result_scalars sort_of_kind s.result) given in
      simpler_step
      (subst (λ (x : Step Mon R.Rule). Takes at x.tree c.word.program x.program) (sym e) t.takes)
      (ap (λ (x : Step Mon R.Rule). scalars_given at.setting x.program) e ∙ t.gives ∙ sym given)
      (subst (λ (x : Step Mon R.Rule). KeepsForms c.word.program x.program) (sym e) t.forms) h

  -- to the program itself
  pub unchanged_step : c.equal ≡ unchanged c.word.program → IsWordStep u s c → IsEqualStep u s c
  unchanged_step e h = record {
    formed = subst (λ (x : Step Mon R.Rule). is_on_numbers u s x.program && is_form_of c.level x.program ≡ true) (sym e) h.formed;
    takes = subst (λ (x : Step Mon R.Rule). Takes (point [] (setting_signed sort_of_kind u.layout u.globals u.signatures s))
        x.tree c.word.program x.program) (sym e) (refl, tt);
  }
