-- What the code gives for a program is its translation.
use Rattle.std.proofs.Common.{◌≡◌, true, List, Some, sym, ap, ◌∙◌, subst}
use Rattle.c_values.specs.Layout.{IsLayout}
use Rattle.expression_lang.specs.Sort.{Scalar}
use Rattle.monad_lang.specs.Program.{Mon}
use Rattle.monad_lang.specs.Form.{is_tidy}
use Rattle.monad_lang.specs.Sorted.{scalars_given}
use Rattle.rule_trees.specs.RuleTree.{Tree}
use Rattle.rule_eq.specs.Rule.{Rule, Point}
use Rattle.rule_eq.specs.Table.{Takes}
use Rattle.rule_eq.specs.Tidy.{KeepsForms}
use Rattle.rule_walks.specs.Balanced.{built}
use Rattle.rule_walks.specs.Walk.{Walked, steps_in}
use Rattle.polish.specs.Polished.{polished}
use Rattle.polish.specs.Seen.{seen}
use Rattle.polish.specs.Translation.{translation, IsTidyOf}
use Rattle.polish.proofs.MadeTidy.{made_tidy}
use Rattle.polish.proofs.FormsMade.{forms_made}
use Rattle.polish.proofs.Walks.{told}
use Rattle.polish.proofs.Translated.{translation_is_tidy}

module _ (at : Point) (m : Mon) (p : Walked) (t : Tree Rule) (e : p ≡ seen (polished at m)) (f : t ≡ built (steps_in p.walk)) where
  pub right_made : p.program ≡ (translation at m).program
  right_made = ap (λ q. q.program) e

  pub tree_made : t ≡ (translation at m).tree
  tree_made = f ∙ ap (λ q. built (steps_in q.walk)) e ∙ ap built (told (polished at m).tree).steps

  is_tidy_of : IsLayout at.setting.scope.layout → (given : List Scalar) → scalars_given at.setting m ≡ Some given →
      IsTidyOf at given m (translation at m)
  is_tidy_of laid given g = translation_is_tidy at laid m given g

  pub taken_there : IsLayout at.setting.scope.layout → (given : List Scalar) → scalars_given at.setting m ≡ Some given →
      Takes at t m p.program
  taken_there laid given g =
      subst (λ r. Takes at t m r) (sym right_made)
      (subst (λ u. Takes at u m (translation at m).program) (sym tree_made) (is_tidy_of laid given g).takes)

  pub gives_there : IsLayout at.setting.scope.layout → (given : List Scalar) → scalars_given at.setting m ≡ Some given →
      scalars_given at.setting p.program ≡ Some given
  gives_there laid given g = ap (λ r. scalars_given at.setting r) right_made ∙ (is_tidy_of laid given g).gives

  pub tidy_there : is_tidy p.program ≡ true
  tidy_there = ap is_tidy right_made ∙ made_tidy at m

  pub forms_there : KeepsForms m p.program
  forms_there = subst (λ r. KeepsForms m r) (sym right_made) (forms_made at m)
