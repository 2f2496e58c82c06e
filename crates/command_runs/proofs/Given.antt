-- A local takes a value.
use Rattle.std.proofs.Common.{◌≡◌, ℕ, true, Option, Some, None, refl, sym, ap, ◌∙◌, subst, pos}
use Rattle.correspondence.specs.Outcome.{Done, Then, goes_on, done}
use Rattle.c_values.specs.Name.{Name, with_name, is_among, are_distinct}
use Rattle.c_values.specs.Value.{Value}
use Rattle.c_values.specs.Choice.{Fill}
use Rattle.expression_lang.specs.Sort.{Scalar, Kind, WordKind, NatKind, IntKind, BoolKind, word_sort_of}
use Rattle.expression_lang.specs.States.{IsOfSort}
use Rattle.expression_lang.specs.Machine.{Machine, with_local}
use Rattle.expression_lang.specs.Signature.{names_of, no_env}
use Rattle.expression_lang.specs.CodeState.{Bindings, env_of}
use Rattle.expression_lang.proofs.Filled.{word_fits}
use Rattle.simpl_lang.specs.Command.{kind_of}
use Rattle.simpl_lang.specs.Exec.{Normal, picked_local}
use Rattle.command_runs.specs.declared.frame.Frame as R
use Rattle.command_runs.specs.declared.outcome.CState as C
use Rattle.command_runs.specs.Locals.{names_in, env_from, put_in, AreLocals}
use Rattle.command_runs.specs.CodeRun.{table_of, locals_of, scope_for, picked_value, IsFrame, Fits}
use Rattle.command_runs.proofs.LocalsLaws.{put_env, put_locals, locals_names, scalar_kind}
use Rattle.command_runs.proofs.Evaluated.{table_env}

pub record IsPut (f : R.Frame) (bs bs' : Bindings) (s : C.CState) (x : Name) (v : Value) : Type 0 where
  pub fits : Fits f bs' s
  pub env : env_of bs' ≡ with_name x v (env_of bs)

pub local_put : (f : R.Frame) (bs bs' : Bindings) (s : C.CState) → IsFrame f → Fits f bs s → (x : Name) (v : Value) (c : Scalar) → (scope_for f).names x ≡ Some c → IsOfSort c v →
    table_of bs' ≡ put_in x v (table_of bs) → IsPut f bs bs' s x v
local_put f bs bs' s frame fits x v c known sorted put =
    let k = scalar_kind (locals_of f) (λ y. None) x c frame.distinct refl known in
    let names : names_in (table_of bs) ≡ names_of (locals_of f) = locals_names (locals_of f) (table_of bs) fits.locals in
    record {
      fits = record {
        locals = subst (λ t. AreLocals (locals_of f) t) (sym put) (put_locals x v k.0 (locals_of f) (table_of bs) fits.locals k.1 (subst (λ d. IsOfSort d v) (sym k.2) sorted));
        state = fits.state;
      };
      env =
          table_env bs' no_env ∙ ap (λ t. env_from t no_env) put
          ∙ put_env x v (table_of bs) no_env (subst (λ ns. are_distinct ns ≡ true) (sym names) frame.distinct) (subst (λ ns. is_among x ns ≡ true) (sym names) k.3)
          ∙ ap (with_name x v) (sym (table_env bs no_env));
    }

-- what is picked

pub known_kind : (f : R.Frame) → IsFrame f → (x : Name) (c : Scalar) → (scope_for f).names x ≡ Some c → (k : Kind) × (kind_of (locals_of f) x ≡ Some k) × (word_sort_of k ≡ c)
known_kind f frame x c known = let k = scalar_kind (locals_of f) (λ y. None) x c frame.distinct refl known in (k.0, k.1, k.2)

pub picked_sorted : (n : ℕ) (k : Kind) → IsOfSort (word_sort_of k) (picked_value n k)
picked_sorted n (WordKind w) = word_fits w (pos n)
picked_sorted n (NatKind w) = word_fits w (pos n)
picked_sorted n (IntKind w) = word_fits w (pos n)
picked_sorted n BoolKind = tt

pick_ends : (n : ℕ) (k : Kind) (x : Name) (m : Machine) → Then (picked_local (Fill n) (Some k)) (λ v. done (Normal (with_local x v m))) (Done (Normal (with_local x (picked_value n k) m)))
pick_ends n (WordKind w) x m = goes_on (goes_on refl refl) refl
pick_ends n (NatKind w) x m = goes_on (goes_on refl refl) refl
pick_ends n (IntKind w) x m = goes_on (goes_on refl refl) refl
pick_ends n BoolKind x m = goes_on refl refl

pub picks : (n : ℕ) (o : Option Kind) (k : Kind) (x : Name) (m m' : Machine) → o ≡ Some k → m' ≡ with_local x (picked_value n k) m →
    Then (picked_local (Fill n) o) (λ v. done (Normal (with_local x v m))) (Done (Normal m'))
picks n o k x m m' e same =
    subst (λ z. Then (picked_local (Fill n) o) (λ v. done (Normal (with_local x v m))) (Done (Normal z))) (sym same)
    (subst (λ q. Then (picked_local (Fill n) q) (λ v. done (Normal (with_local x v m))) (Done (Normal (with_local x (picked_value n k) m)))) (sym e) (pick_ends n k x m))
