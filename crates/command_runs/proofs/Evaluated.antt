-- Expressions in a frame: the locals and the state are such as evaluation asks, and values are of their sorts.
use Rattle.std.proofs.Common.{◌≡◌, List, [], ◌∷◌, Option, None, refl, sym, ap, ap₂, ◌∙◌, subst}
use Rattle.std.specs.Prelude.{IsSome, string_bytes}
use Rattle.c_values.specs.declared.values.Value as V
use Rattle.c_values.specs.declared.values.GlobalVar as G
use Rattle.c_values.specs.Name.{Name, with_name}
use Rattle.c_values.specs.Layout.{Layout, global_type, Shape}
use Rattle.c_values.specs.CodeValue.{value_of}
use Rattle.expression_lang.specs.Expression.{Exp, Path}
use Rattle.expression_lang.specs.Sort as S
use Rattle.expression_lang.specs.Sort.{Sort, sort_of, word_sort_of}
use Rattle.expression_lang.specs.Evaluation.{Env, value}
use Rattle.expression_lang.specs.States.{IsOfSort, IsEnvironment, IsState}
use Rattle.expression_lang.specs.Signature.{Binder, no_env}
use Rattle.expression_lang.specs.Wide.{wide}
use Rattle.expression_lang.specs.CodeState.{Bindings, env_with, env_of, scalar_of_value, scalars_with, scope_in, AreScalars}
use Rattle.expression_lang.proofs.Fine.{HasSort, AreFine, fine, fine_path}
use Rattle.expression_lang.proofs.ScalarValues.{globals_have, scalar_is, scalar_here}
use Rattle.command_runs.specs.declared.outcome.CState as C
use Rattle.command_runs.specs.declared.frame.Frame as R
use Rattle.command_runs.specs.Locals.{env_from, AreLocals}
use Rattle.command_runs.specs.CodeRun.{table_of, state_in, locals_of, scope_for, globals_for, IsFrame, Fits, HasSortIn, LeadsIn}
use Rattle.command_runs.proofs.LocalsLaws.{scalars_among, locals_sorted}

pub table_env : (bs : Bindings) (env : Env) → env_with bs env ≡ env_from (table_of bs) env
table_env [] env = refl
table_env (b ∷ bs) env = table_env bs (with_name (string_bytes b.0) (value_of b.1) env)

-- what is in scope

pub are_scalars : (ls : List Binder) (bs : Bindings) → AreLocals ls (table_of bs) → AreScalars bs
are_scalars [] [] h = tt
are_scalars [] (b ∷ bs) h = absurd h
are_scalars (l ∷ ls) [] h = absurd h
are_scalars (l ∷ ls) (b ∷ bs) h = (scalar_here (word_sort_of l.kind) (value_of b.1) h.1, are_scalars ls bs h.2)

names_same : (ls : List Binder) (bs : Bindings) (names : Name → Option S.Scalar) → AreLocals ls (table_of bs) → scalars_with bs names ≡ scalars_among ls names
names_same [] [] names h = refl
names_same [] (b ∷ bs) names h = absurd h
names_same (l ∷ ls) [] names h = absurd h
names_same (l ∷ ls) (b ∷ bs) names h =
    names_same ls bs (with_name (string_bytes b.0) (scalar_of_value (value_of b.1)) names) h.2
    ∙ ap₂ (λ n c. scalars_among ls (with_name n c names)) h.0 (scalar_is (word_sort_of l.kind) (value_of b.1) h.1)

-- the state

module _ (f : R.Frame) (frame : IsFrame f) (bs : Bindings) (s : C.CState) (fits : Fits f bs s) where
  abbrev l : Layout
  l = f.unit.now.layout

  pub env_here : env_of bs ≡ env_from (table_of bs) no_env
  env_here = table_env bs no_env

  pub environment : IsEnvironment (scope_for f) (env_of bs)
  environment x c e =
      subst (λ env. IsOfSort c (env x)) (sym env_here) (locals_sorted (locals_of f) (table_of bs) (λ y. None) no_env fits.locals (λ y d q. absurd cc) x c e)

  pub state : IsState l (globals_for f) (state_in f.unit.now s)
  state = record { heap = fits.state.heap; globals = λ x t e. globals_have l f.unit.now.globals.items s.globals.items fits.state.globals x t e }

  pub scope_same : scope_in l bs f.unit.now.globals.items ≡ scope_for f
  scope_same = ap (λ n. record { layout = l; names = n; globals = global_type (globals_for f) }) (names_same (locals_of f) bs (λ x. None) fits.locals)

  pub sorted_some : (e : Exp) (o : Sort) → HasSortIn f e o → IsSome (sort_of (scope_in l bs f.unit.now.globals.items) e)
  sorted_some e o h = subst (λ r. IsSome r) (sym (ap (λ g. sort_of g e) scope_same ∙ h.sorted)) refl

  pub is_narrow : (e : Exp) (o : Sort) → HasSortIn f e o → wide l (env_of bs) (state_in f.unit.now s) e ≡ None
  is_narrow e o h = h.narrow (env_of bs) (state_in f.unit.now s) environment state

  pub value_fits : (e : Exp) (o : Sort) → HasSortIn f e o → HasSort l o (value l (env_of bs) (state_in f.unit.now s) e)
  value_fits e o h = (fine (scope_for f) frame.unit.formed.layout (env_of bs) (state_in f.unit.now s) environment state.globals state.heap e o h.sorted).sort

  pub path_fits : (path : Path) (r q : Shape) → LeadsIn f path r q → AreFine (scope_for f) frame.unit.formed.layout (env_of bs) (state_in f.unit.now s) environment state.globals state.heap path r q
  path_fits path r q h = fine_path (scope_for f) frame.unit.formed.layout (env_of bs) (state_in f.unit.now s) environment state.globals state.heap path r q h.along
