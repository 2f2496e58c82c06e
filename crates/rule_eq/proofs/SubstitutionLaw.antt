-- The law of substitution, said of one unit.
use Rattle.std.proofs.Common.{◌≡◌, ℕ, true, false, List, [], ◌∷◌, map, Option, Some, ◌⊎◌, inl, inr, refl, sym, ◌∙◌, subst}
use Rattle.std.proofs.lemmas.Bool.{cond-false, true≢false}
use Rattle.correspondence.specs.Corresponds.{Corresponds, Paired}
use Rattle.correspondence.specs.Related.{Same, BothFail}
use Rattle.c_values.specs.Name.{Name, same_name, with_name}
use Rattle.c_values.specs.Layout.{Layout}
use Rattle.c_values.specs.Choice.{Choice}
use Rattle.expression_lang.specs.Expression.{Exp}
use Rattle.expression_lang.specs.Evaluation.{Env, State, value}
use Rattle.expression_lang.specs.Mentions as X
use Rattle.expression_lang.specs.Mentions.{reads}
use Rattle.expression_lang.specs.Sort.{Scalar, sort_of_kind}
use Rattle.expression_lang.specs.States.{IsEnvironment, IsState}
use Rattle.ac_expr.specs.Substituted.{substituted}
use Rattle.ac_expr.proofs.SubstitutedValues.{value_put}
use Rattle.monad_lang.specs.Program.{Mon, FinalUnit}
use Rattle.monad_lang.specs.Names.{is_free, is_captured}
use Rattle.monad_lang.specs.Run.{Runs, runs, functions_below}
use Rattle.monad_lang.specs.Sorted.{scalars_given, signature_of, IsWellFormed}
use Rattle.program_facts.specs.Substituted.{program_substituted}
use Rattle.program_facts.specs.Lasting.{setting_in}
use Rattle.program_facts.proofs.KeepsTags.{units_keep_tags}
use Rattle.program_facts.proofs.RunsLast.{formed_units_last}
use Rattle.rule_eq.specs.Kept.{EqualKept}
use Rattle.rule_eq.specs.Exact.{AreAlike}
use Rattle.rule_eq.proofs.Together.{itself}
use Rattle.rule_eq.proofs.PutIn.{just_bound}
use Rattle.rule_eq.proofs.SubstitutedRuns.{substituted_does}
use Rattle.rule_eq.proofs.Standing.{any_respected, pairs}

another : (l : Layout) (env : Env) (s : State) (x : Name) (e : Exp) (y : Name) → same_name x y ≡ false → with_name x (value l env s e) env y ≡ env y
another l env s x e y n = cond-false (same_name x y) (value l env s e) (env y) n

pub values_substituted : (l : Layout) (env : Env) (s : State) (x : Name) (e a : Exp) → value l env s (substituted x e a) ≡ value l (with_name x (value l env s e) env) s a
values_substituted l env s x e a = value_put l x e env (with_name x (value l env s e) env) s (another l env s x e) a (λ k. just_bound x (value l env s e) env)

kept_itself : (u : FinalUnit) (fs : List Runs) → Paired (EqualKept u) fs fs
kept_itself u [] = tt
kept_itself u (f ∷ fs) = (λ depth c c' k. subst (λ d. Corresponds Same BothFail (f depth c) (f depth d)) (sym k.same) (itself (f depth c)), kept_itself u fs)

-- where the name is free, it holds what is put in
there : (u : FinalUnit) (env : Env) (s : State) (x : Name) (e : Exp) (m : Mon) → (reads e ≡ false) ⊎ (is_free x m ≡ false) → is_free x m ≡ true → (reads e ≡ false) × (with_name x (value u.layout env s e) env x ≡ value u.layout env s e)
there u env s x e m (inl h) k = (h, just_bound x (value u.layout env s e) env)
there u env s x e m (inr h) k = absurd (true≢false (sym k ∙ h))

pub runs_substituted : (u : FinalUnit) → IsWellFormed u → (p : Choice) (n : ℕ) (x : Name) (e : Exp) (m : Mon) → (reads e ≡ false) ⊎ (is_free x m ≡ false) → ((y : Name) → X.names y e ≡ true → is_captured y x m ≡ false) →
    (names : Name → Option Scalar) (given : List Scalar) → scalars_given (setting_in sort_of_kind u names) m ≡ Some given → (depth : Option ℕ) (env : Env) (s : State) → IsState u.layout u.globals s →
    IsEnvironment (setting_in sort_of_kind u names).scope (with_name x (value u.layout env s e) env) →
    Corresponds Same BothFail (runs u.layout p m (with_name x (value u.layout env s e) env) depth (functions_below u p n) s) (runs u.layout p (program_substituted x e m) env depth (functions_below u p n) s)
runs_substituted u formed p n x e m free captured names given sorted depth env s state fits =
    let none : Mon → Env → State → Type 0 = λ m env s. Unit {0} in
    let fs = functions_below u p n in
    let alike : AreAlike u u = record { layout = refl; globals = refl; functions = refl } in
    let lasts = (formed_units_last u formed).below p n in
    (substituted_does u.layout formed.layout p u.globals (map signature_of u.functions) none (any_respected u.layout) x e m names given sorted env (with_name x (value u.layout env s e) env) depth fs fs s (another u.layout env s x e)
    (λ k. let h = there u env s x e m free k in record { unread = h.0; held = h.1 }) captured
    (record { functions = pairs u u formed formed alike p n none (any_respected u.layout) fs fs (kept_itself u fs) lasts lasts (units_keep_tags u p n) (units_keep_tags u p n); environment = fits; state = state })).same
