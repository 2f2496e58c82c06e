-- A program that gives a function's result from what stands for words is well-sorted in the setting that the kernel of equality has.
use Rattle.std.proofs.Common.{◌≡◌, true, List, Some, ap, ◌∙◌}
use Rattle.c_values.specs.Layout.{GlobalVar}
use Rattle.expression_lang.specs.Sort.{Scalar, sort_of_kind}
use Rattle.expression_lang.specs.Sorted.{result_scalars}
use Rattle.expression_lang.specs.Signature.{Binder, Signature}
use Rattle.simpl_lang.specs.Command.{SimplUnit}
use Rattle.monad_lang.specs.Program.{Mon}
use Rattle.monad_lang.specs.Sorted.{Setting, scalars_given, setting_signed}
use Rattle.acceptance.specs.Accepted.{is_on_numbers}
use Rattle.acceptance.specs.CodeSetting.{setting_there}
use Rattle.acceptance.proofs.OnWords.{given_by}

module _ (u : SimplUnit) (s : Signature) (gs : List GlobalVar) (fs : List Signature) (ps : List Binder)
    (p : gs ≡ u.globals) (q : fs ≡ u.signatures) (r : ps ≡ s.params) where
  pub setting_same : setting_there u.layout gs fs ps ≡ setting_signed sort_of_kind u.layout u.globals u.signatures s
  setting_same =
      ap (λ (vs : List GlobalVar). setting_there u.layout vs fs ps) p
      ∙ ap (λ (hs : List Signature). setting_there u.layout u.globals hs ps) q
      ∙ ap (λ (bs : List Binder). setting_there u.layout u.globals u.signatures bs) r

  pub given_on_numbers : (m : Mon) → is_on_numbers u s m ≡ true →
      (given : List Scalar) × (scalars_given (setting_there u.layout gs fs ps) m ≡ Some given)
  given_on_numbers m h =
      let there = given_by (result_scalars sort_of_kind s.result)
      (scalars_given (setting_signed sort_of_kind u.layout u.globals u.signatures s) m) h in
      (there.0, ap (λ (t : Setting). scalars_given t m) setting_same ∙ there.1)
