-- A path's steps and the values of arguments, one more at a time.
use Rattle.std.proofs.Common.{◌≡◌, List, [], ◌∷◌, ◌++◌, map, sym, ap, ◌∙◌}
use Rattle.c_values.specs.declared.values.Value as V
use Rattle.c_values.specs.Value.{Value, number_in}
use Rattle.c_values.specs.Layout.{Layout}
use Rattle.c_values.specs.Path.{Step, Index}
use Rattle.c_values.specs.CodeValue.{value_of}
use Rattle.c_memory.specs.declared.steps.Step as P
use Rattle.c_memory.specs.CodeStep.{step_of}
use Rattle.expression_lang.specs.Expression.{Exp, Path, IntoElement}
use Rattle.expression_lang.specs.Evaluation.{Env, State, value, steps}
use Rattle.expression_lang.specs.Signature.{values_of}
use Rattle.global_changes.proofs.Indexed.{one_more}

module _ (l : Layout) (env : Env) (s : State) where
  pub steps_grow : (ps qs : List P.Step) (p : P.Step) (v : V.Value) (path rest : Path) (e : Exp) (all : List Step) → qs ≡ ps ++ (p ∷ []) → step_of p ≡ Index (number_in (value_of v)) →
      value_of v ≡ value l env s e → path ≡ IntoElement e rest → map step_of ps ++ steps l env s path ≡ all → map step_of qs ++ steps l env s rest ≡ all
  steps_grow ps qs p v path rest e all grown index same here h =
      one_more step_of ps qs p (Index (number_in (value l env s e))) (steps l env s rest) all grown (index ∙ ap (λ w. Index (number_in w)) same)
      (ap (λ q. map step_of ps ++ steps l env s q) (sym here) ∙ h)

  pub values_grow : (vs ws : List V.Value) (v : V.Value) (e : Exp) (es others : List Exp) (all : List Value) → ws ≡ vs ++ (v ∷ []) → value_of v ≡ value l env s e → es ≡ e ∷ others →
      map value_of vs ++ values_of l env s es ≡ all → map value_of ws ++ values_of l env s others ≡ all
  values_grow vs ws v e es others all grown same here h =
      one_more value_of vs ws v (value l env s e) (values_of l env s others) all grown same (ap (λ fs. map value_of vs ++ values_of l env s fs) (sym here) ∙ h)
