-- What programs are translated to: the rules of the tree take them there, and it is tidy, gives the same scalars and has their
-- forms.
use Rattle.std.proofs.Common.{◌≡◌, List, Some}
use Rattle.c_values.specs.Layout.{IsLayout}
use Rattle.expression_lang.specs.Sort.{Scalar}
use Rattle.monad_lang.specs.Program.{Mon}
use Rattle.monad_lang.specs.Sorted.{scalars_given}
use Rattle.rule_eq.specs.Rule.{Point}
use Rattle.polish.specs.Polished.{polished}
use Rattle.polish.specs.Translation.{translation, IsTidyOf}
use Rattle.polish.proofs.Accepted.{program_reached}
use Rattle.polish.proofs.MadeTidy.{made_tidy}
use Rattle.polish.proofs.FormsMade.{forms_made}
use Rattle.polish.proofs.StaysAccepted.{balanced_takes}

module _ (at : Point) (laid : IsLayout at.setting.scope.layout) (m : Mon) (cs : List Scalar)
    (g : scalars_given at.setting m ≡ Some cs) where
  pub polished_is_tidy : IsTidyOf at cs m (polished at m)
  polished_is_tidy =
      let r = program_reached at laid m cs g in
      record { takes = r.takes; gives = r.gives; tidy = made_tidy at m; forms = forms_made at m }

  pub translation_is_tidy : IsTidyOf at cs m (translation at m)
  translation_is_tidy =
      let p = polished at m in
      let t = polished_is_tidy in
      record { takes = balanced_takes p.tree at m p.program t.takes; gives = t.gives; tidy = t.tidy; forms = t.forms }
