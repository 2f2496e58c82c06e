-- What a loop begins with: one value for each name; and names that have values.
use Rattle.std.proofs.Common.{◌≡◌, suc, length, true, List, [], ◌∷◌, Some, refl, ap, ap₂, ◌∙◌}
use Rattle.std.proofs.lemmas.Bool.{and_parts, cond-true, not-true}
use Rattle.std.proofs.lemmas.Bool.Decides.{Decides-eqb}
use Rattle.c_values.specs.Name.{Name, same_name, with_name, is_among, are_distinct}
use Rattle.c_values.specs.Value.{Value}
use Rattle.c_values.specs.Layout.{Layout}
use Rattle.c_values.proofs.Laid.{same_name-refl}
use Rattle.c_values.proofs.Options.{some_is}
use Rattle.expression_lang.specs.Evaluation.{Env, State, value}
use Rattle.expression_lang.specs.Sort.{Scalar, Scope}
use Rattle.expression_lang.specs.Sorted.{program_sort, scalar_in}
use Rattle.expression_lang.specs.Signature.{values_of, bound}
use Rattle.expression_lang.proofs.Bound.{bound_stays}
use Rattle.expression_lang.proofs.SortParts.{with_scalar_inv}
use Rattle.monad_lang.specs.Program.{Start}
use Rattle.monad_lang.specs.Run.{start_names, start_values}
use Rattle.monad_lang.specs.Sorted.{start_scalars, one_for_each}
use Rattle.rule_parts.specs.Starts.{start_exps}
use Rattle.hoare_check.specs.DeriveTable.{variables}
use Rattle.hoare_check.proofs.Naming.{AsMany}

as_long : (g : Scope) (starts : List Start) (cs : List Scalar) → start_scalars g starts ≡ Some cs → length (start_names starts) ≡ length cs
as_long g [] cs h = ap length (some_is h)
as_long g (x ∷ xs) cs h =
    let p = with_scalar_inv (scalar_in (program_sort g x.exp)) (start_scalars g xs) cs h in
    ap suc (as_long g xs p.1 p.3) ∙ ap length p.4

pub one_start_each : (g : Scope) (starts : List Start) (cs : List Scalar) → start_scalars g starts ≡ Some cs → one_for_each (start_names starts) cs ≡ true
one_start_each g starts cs h = (Decides-eqb (length (start_names starts)) (length cs)).1 (as_long g starts cs h)

module _ (l : Layout) (s : State) where
  pub starts_are : (env : Env) (starts : List Start) → start_values l env s starts ≡ values_of l env s (start_exps starts)
  starts_are env [] = refl
  starts_are env (x ∷ xs) = ap (λ vs. value l env s x.exp ∷ vs) (starts_are env xs)

  -- the values of names that are bound to values
  pub named_values : (xs : List Name) (vs : List Value) (env : Env) → are_distinct xs ≡ true → AsMany xs vs → values_of l (bound xs vs env) s
      (variables xs) ≡ vs
  named_values [] [] env h k = refl
  named_values (x ∷ xs) (v ∷ vs) env h k =
      let p = and_parts _ (are_distinct xs) h in
      ap₂ (λ u us. u ∷ us) (bound_stays x xs vs (with_name x v env) (not-true (is_among x xs) p.0) ∙ cond-true (same_name x x) v (env x) (same_name-refl x))
      (named_values xs vs (with_name x v env) p.1 k)
  named_values [] (v ∷ vs) env h k = absurd k
  named_values (x ∷ xs) [] env h k = absurd k
