-- The sorts of a function of a well-formed unit: its body gives its results, of which it has at most one.
use Rattle.std.proofs.Common.{◌≡◌, Bool, true, false, cond, ◌&&◌, List, [], ◌∷◌, map, Option, Some, None, refl, subst}
use Rattle.std.specs.Option.{is_some}
use Rattle.std.proofs.lemmas.Bool.{and_parts, false≢true}
use Rattle.c_values.specs.Name.{Name, same_name, are_distinct}
use Rattle.c_values.proofs.Options.{some_is}
use Rattle.expression_lang.specs.Sort.{Sort, Kind, is_truth, sort_of_kind, are_kinds}
use Rattle.expression_lang.specs.Signature.{Binder, names_of, kinds_of}
use Rattle.monad_lang.specs.Program.{FinalFn, FinalUnit, final_fn}
use Rattle.monad_lang.specs.Sorted.{setting_of, scalars_given, are_scalars, has_few, one_for_each, is_fn_sorted, are_fns_sorted}
use Rattle.monad_lang.proofs.Given.{given_there}
use Rattle.exactness.specs.Triple.{Logical, logical_names, logical_sorts, result_names}
use Rattle.hoare_check.proofs.Naming.{AsMany}

pub found_sorted : (u : FinalUnit) (fs : List FinalFn) (x : Name) (f : FinalFn) → are_fns_sorted u fs ≡ true → final_fn fs x ≡ Some f → is_fn_sorted u f ≡ true
found_sorted u [] x f h e = absurd cc
found_sorted u (d ∷ fs) x f h e = by_test (found_sorted u fs x f p.1) (same_name d.name x) e
  where
    p : (is_fn_sorted u d ≡ true) × (are_fns_sorted u fs ≡ true)
    p = and_parts (is_fn_sorted u d) (are_fns_sorted u fs) h

    by_test : (final_fn fs x ≡ Some f → is_fn_sorted u f ≡ true) → (b : Bool) → cond b (Some d) (final_fn fs x) ≡ Some f → is_fn_sorted u f ≡ true
    by_test rest true k = subst (λ c. is_fn_sorted u c ≡ true) (some_is k) p.0
    by_test rest false k = rest k

-- its body gives its results, of which it has at most one
pub record BodySorted (u : FinalUnit) (f : FinalFn) : Type 0 where
  pub few : has_few f.results ≡ true
  pub gives : scalars_given (setting_of u f) f.body ≡ Some (map sort_of_kind f.results)

pub body_sorted : (u : FinalUnit) (f : FinalFn) → is_fn_sorted u f ≡ true → BodySorted u f
body_sorted u f h =
    let gives = are_scalars (map sort_of_kind f.results) (scalars_given (setting_of u f) f.body) in
    let front = are_kinds (kinds_of f.params) && are_kinds f.results && are_distinct (names_of f.params) in
    let p = and_parts (front && has_few f.results) gives h in
    record { few = (and_parts front (has_few f.results) p.0).1; gives = given_there (map sort_of_kind f.results) (scalars_given (setting_of u f) f.body) p.1 }

pub one_result_each : (rs : List Kind) → has_few rs ≡ true → one_for_each (result_names rs) (map sort_of_kind rs) ≡ true
one_result_each [] h = refl
one_result_each (k ∷ []) h = refl
one_result_each (k ∷ j ∷ ks) h = absurd (false≢true h)

pub one_result_name : (rs : List Kind) → are_distinct (result_names rs) ≡ true
one_result_name [] = refl
one_result_name (k ∷ ks) = refl

pub kinds_many : (bs : List Binder) → AsMany (names_of bs) (map sort_of_kind (kinds_of bs))
kinds_many [] = tt
kinds_many (b ∷ bs) = kinds_many bs

pub logical_sorts_many : (xs : List Logical) → AsMany (logical_names xs) (logical_sorts xs)
logical_sorts_many [] = tt
logical_sorts_many (x ∷ xs) = logical_sorts_many xs

pub sorted_some : (o : Option Sort) → is_truth o ≡ true → is_some o ≡ true
sorted_some (Some o) h = refl
sorted_some None h = absurd (false≢true h)
