-- What functions take and give, and logical values: as many as their names, each of its sort.
use Rattle.std.proofs.Common.{◌≡◌, true, false, not, List, [], ◌∷◌, ◌++◌, Option, Some, None, refl, sym, ap₂, ◌∙◌}
use Rattle.std.proofs.lemmas.Bool.{and_from, false≢true, not_from_false}
use Rattle.c_values.specs.Name.{Name, is_among, are_distinct}
use Rattle.c_values.specs.Value.{Value}
use Rattle.c_values.specs.Layout.{IsLayout, GlobalVar, global_type}
use Rattle.c_memory.specs.Heap.{heap_tags}
use Rattle.expression_lang.specs.Expression.{Exp}
use Rattle.expression_lang.specs.Evaluation.{Env, State}
use Rattle.expression_lang.specs.Sort.{Scalar, Sort, Of, Kind, Scope, sort_of, sort_of_kind}
use Rattle.expression_lang.specs.Sorted.{result_scalars}
use Rattle.expression_lang.specs.Signature.{Binder, names_of, kinds_of, values_of, bound}
use Rattle.expression_lang.specs.States.{IsEnvironment, IsState}
use Rattle.expression_lang.specs.View.{AreOfKinds}
use Rattle.expression_lang.proofs.Inversion.{same_inv}
use Rattle.ac_expr.proofs.SameValues.{unread_same}
use Rattle.monad_lang.specs.Program.{FinalFn}
use Rattle.monad_lang.specs.Sorted.{signature_of}
use Rattle.program_facts.specs.Lasting.{AreOfSorts}
use Rattle.program_facts.proofs.SortedValues.{value_sorted}
use Rattle.exactness.specs.Triple.{Logical, AreLogicals, logical_names, logical_sorts, result_name, result_names}
use Rattle.hoare_check.specs.DeriveTable.{is_scalar_of, AreLogicalValues}
use Rattle.hoare_check.proofs.Naming.{AsMany}
use Rattle.hoare_check.proofs.JoinedNames.{unnamed_value}

pub results_many : (f : FinalFn) (vs : List Value) → AreOfSorts (result_scalars sort_of_kind (signature_of f).result) vs → AsMany (result_names f.results) vs
results_many f vs h = of f.results vs h
  where
    of : (rs : List Kind) (vs : List Value) → AreOfSorts
        (result_scalars sort_of_kind (signature_of (record { name = f.name; level = f.level; params = f.params; results = rs; body = f.body })).result) vs →
        AsMany (result_names rs) vs
    of [] [] h = tt
    of [] (v ∷ vs) h = absurd h
    of (k ∷ ks) [] h = absurd h
    of (k ∷ ks) (v ∷ []) h = tt
    of (k ∷ ks) (v ∷ w ∷ vs) h = absurd h.1

-- a function without a result binds no name
pub result_bound : (rs : List Kind) (vs : List Value) (env : Env) → AsMany (result_names rs) vs → bound (result_name ∷ []) vs env ≡ bound
    (result_names rs) vs env
result_bound [] [] env h = refl
result_bound [] (v ∷ vs) env h = absurd h
result_bound (k ∷ ks) vs env h = refl

pub results_distinct : (rs : List Kind) (ys : List Name) → is_among result_name ys ≡ false → are_distinct ys ≡ true → are_distinct
    (result_names rs ++ ys) ≡ true
results_distinct [] ys h k = k
results_distinct (r ∷ rs) ys h k = and_from (not (is_among result_name ys)) (are_distinct ys) (not_from_false (is_among result_name ys) h) k

pub arguments_many : (bs : List Binder) (vs : List Value) → AreOfKinds (kinds_of bs) vs → AsMany (names_of bs) vs
arguments_many [] [] h = tt
arguments_many (b ∷ bs) (v ∷ vs) h = arguments_many bs vs h.1
arguments_many [] (v ∷ vs) h = absurd h
arguments_many (b ∷ bs) [] h = absurd h

pub logicals_many : (xs : List Logical) (vs : List Value) → AreLogicals xs vs → AsMany (logical_names xs) vs
logicals_many [] [] h = tt
logicals_many (x ∷ xs) (v ∷ vs) h = logicals_many xs vs h.1
logicals_many [] (v ∷ vs) h = absurd h
logicals_many (x ∷ xs) [] h = absurd h

pub logicals_sorted : (xs : List Logical) (vs : List Value) → AreLogicals xs vs → AreOfSorts (logical_sorts xs) vs
logicals_sorted [] [] h = tt
logicals_sorted (x ∷ xs) (v ∷ vs) h = (h.0, logicals_sorted xs vs h.1)
logicals_sorted [] (v ∷ vs) h = absurd h
logicals_sorted (x ∷ xs) [] h = absurd h

pub sorts_joined : (cs ds : List Scalar) (vs ws : List Value) → AreOfSorts cs vs → AreOfSorts ds ws → AreOfSorts (cs ++ ds) (vs ++ ws)
sorts_joined [] ds [] ws h k = k
sorts_joined (c ∷ cs) ds (v ∷ vs) ws h k = (h.0, sorts_joined cs ds vs ws h.1 k)
sorts_joined [] ds (v ∷ vs) ws h k = absurd h
sorts_joined (c ∷ cs) ds [] ws h k = absurd h

scalar_is : (c : Scalar) (o : Option Sort) → is_scalar_of c o ≡ true → o ≡ Some (Of c)
scalar_is c None h = absurd (false≢true h)
scalar_is c (Some o) h = let k = same_inv (Some o) (Some (Of c)) h in k.1 ∙ sym k.2

module _ (g : Scope) (h : IsLayout g.layout) (vs : List GlobalVar) (known : g.globals ≡ global_type vs) (env : Env) (names : IsEnvironment g env) (s : State)
    (state : IsState g.layout vs s) where
  pub logicals_are : (xs : List Name) (ls : List Logical) (es : List Exp) → AreLogicalValues g xs (logical_sorts ls) es → AreLogicals ls
      (values_of g.layout env s es)
  logicals_are xs [] [] k = tt
  logicals_are xs (x ∷ ls) (e ∷ es) k =
      (value_sorted g h vs known env names s state e (Of x.sort) (scalar_is x.sort (sort_of g e) k.0), logicals_are xs ls es k.3)
  logicals_are xs [] (e ∷ es) k = absurd k
  logicals_are xs (x ∷ ls) [] k = absurd k

  -- they are the same behind the names, in another state with the same tags
  pub logicals_stay : (xs : List Name) (us : List Value) (s' : State) → heap_tags s'.heap ≡ heap_tags s.heap → (cs : List Scalar) (es : List Exp) →
      AreLogicalValues g xs cs es →
      values_of g.layout (bound xs us env) s' es ≡ values_of g.layout env s es
  logicals_stay xs us s' tags [] [] k = refl
  logicals_stay xs us s' tags (c ∷ cs) (e ∷ es) k =
      ap₂ (λ v ws. v ∷ ws) (sym (unread_same g.layout env s s' tags e k.1 ∙ unnamed_value g.layout xs us env s' e k.2)) (logicals_stay xs us s' tags cs es k.3)
  logicals_stay xs us s' tags [] (e ∷ es) k = absurd k
  logicals_stay xs us s' tags (c ∷ cs) [] k = absurd k
