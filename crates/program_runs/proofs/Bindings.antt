-- Bindings behind others: what an environment and a scope become.
use Rattle.std.proofs.Common.{◌≡◌, ◌++◌, List, [], ◌∷◌, Option, None, refl, sym, ap, ap₂, ◌∙◌, subst}
use Rattle.std.specs.Prelude.{string_bytes}
use Rattle.c_values.specs.Name.{Name, with_name}
use Rattle.c_values.specs.Value.{Value, nothing}
use Rattle.c_values.specs.Layout.{global_type}
use Rattle.c_values.specs.CodeValue.{value_of}
use Rattle.expression_lang.specs.Sort as S
use Rattle.expression_lang.specs.Sorted.{names_with}
use Rattle.expression_lang.specs.Evaluation.{Env}
use Rattle.expression_lang.specs.Signature.{bound}
use Rattle.expression_lang.specs.States.{IsEnvironment}
use Rattle.expression_lang.specs.CodeState.{Bindings, env_with, env_of, scalar_of_value, scalars_with, IsScalar, AreScalars}
use Rattle.expression_lang.proofs.ScalarValues.{scalar_here, scalar_is, names_have, env_behind}
use Rattle.monad_lang.specs.Program.{FinalUnit}
use Rattle.monad_lang.specs.Sorted.{setting_with}
use Rattle.program_facts.specs.Lasting.{AreOfSorts}
use Rattle.program_runs.specs.Bound.{AreBound, Extends}
use Rattle.program_runs.specs.Machine.{setting_at}

scalars_behind : (old more : Bindings) (names : Name → Option S.Scalar) → scalars_with (old ++ more) names ≡ scalars_with more (scalars_with old names)
scalars_behind [] more names = refl
scalars_behind (b ∷ bs) more names = scalars_behind bs more (with_name (string_bytes b.0) (scalar_of_value (value_of b.1)) names)

env_bound : (xs : List Name) (vs : List Value) (more : Bindings) (env : Env) → AreBound xs vs more → env_with more env ≡ bound xs vs env
env_bound [] vs more env h = ap (λ bs. env_with bs env) h
env_bound (x ∷ xs) [] more env h = ap (λ bs. env_with bs env) h
env_bound (x ∷ xs) (v ∷ vs) [] env h = absurd h
env_bound (x ∷ xs) (v ∷ vs) (b ∷ bs) env h =
    env_bound xs vs bs (with_name (string_bytes b.0) (value_of b.1) env) h.2 ∙ ap₂ (λ y w. bound xs vs (with_name y w env)) h.0 h.1

scalars_bound : (xs : List Name) (vs : List Value) (more : Bindings) (ss : List S.Scalar) (names : Name → Option S.Scalar) → AreOfSorts ss vs → AreBound xs vs more →
    scalars_with more names ≡ names_with xs ss names
scalars_bound [] vs more ss names k h = ap (λ bs. scalars_with bs names) h
scalars_bound (x ∷ xs) [] more [] names k h = ap (λ bs. scalars_with bs names) h
scalars_bound (x ∷ xs) [] more (s ∷ ss) names k h = absurd k
scalars_bound (x ∷ xs) (v ∷ vs) more [] names k h = absurd k
scalars_bound (x ∷ xs) (v ∷ vs) [] (s ∷ ss) names k h = absurd h
scalars_bound (x ∷ xs) (v ∷ vs) (b ∷ bs) (s ∷ ss) names k h =
    scalars_bound xs vs bs ss (with_name (string_bytes b.0) (scalar_of_value (value_of b.1)) names) k.1 h.2
    ∙ ap₂ (λ y o. names_with xs ss (with_name y o names)) h.0 (ap scalar_of_value h.1 ∙ scalar_is s v k.0)

no_more : (more : Bindings) → more ≡ [] → AreScalars more
no_more more h = subst (λ bs. AreScalars bs) (sym h) tt

bound_scalars : (xs : List Name) (vs : List Value) (more : Bindings) (ss : List S.Scalar) → AreOfSorts ss vs → AreBound xs vs more → AreScalars more
bound_scalars [] vs more ss k h = no_more more h
bound_scalars (x ∷ xs) [] more ss k h = no_more more h
bound_scalars (x ∷ xs) (v ∷ vs) more [] k h = absurd k
bound_scalars (x ∷ xs) (v ∷ vs) [] (s ∷ ss) k h = absurd h
bound_scalars (x ∷ xs) (v ∷ vs) (b ∷ bs) (s ∷ ss) k h = (subst (λ w. IsScalar w) (sym h.1) (scalar_here s v k.0), bound_scalars xs vs bs ss k.1 h.2)

scalars_both : (old more : Bindings) → AreScalars old → AreScalars more → AreScalars (old ++ more)
scalars_both [] more h k = k
scalars_both (b ∷ bs) more h k = (h.0, scalars_both bs more h.1 k)

module _ (old : Bindings) (xs : List Name) (vs : List Value) (new : Bindings) (h : Extends old xs vs new) where
  pub env_extended : env_of new ≡ bound xs vs (env_of old)
  env_extended = ap env_of h.same ∙ env_behind old h.more (λ x. nothing) ∙ env_bound xs vs h.more (env_of old) h.bound

  module _ (ss : List S.Scalar) (k : AreOfSorts ss vs) where
    pub scalars_extended : AreScalars old → AreScalars new
    scalars_extended all = subst (λ bs. AreScalars bs) (sym h.same) (scalars_both old h.more all (bound_scalars xs vs h.more ss k h.bound))

    pub setting_extended : (u : FinalUnit) → setting_at u new ≡ setting_with xs ss (setting_at u old)
    setting_extended u =
        ap (λ names. record { scope = record { layout = u.layout; names = names; globals = global_type u.globals }; functions = (setting_at u old).functions; sort_for = (setting_at u old).sort_for })
        (ap (λ bs. scalars_with bs (λ x. None)) h.same ∙ scalars_behind old h.more (λ x. None) ∙ scalars_bound xs vs h.more ss (scalars_with old (λ x. None)) k h.bound)

-- what is in scope has values of its scalars

pub environment : (u : FinalUnit) (bs : Bindings) → AreScalars bs → IsEnvironment (setting_at u bs).scope (env_of bs)
environment u bs h = names_have bs (λ x. None) (λ x. nothing) h (λ x c e. absurd cc)
