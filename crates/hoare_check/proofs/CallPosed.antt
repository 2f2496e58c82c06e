-- Where a call is posed to the checker of derivations: it has as many arguments as its function has parameters and as many names as
-- that has results, and the names in scope behind it.
use Rattle.std.proofs.Common.{◌≡◌, ℕ, suc, length, Bool, true, false, if◌then◌else◌, List, [], ◌∷◌, map, Option, Some, None, refl, sym, ap, ◌∙◌, subst, arith}
use Rattle.c_values.specs.Name.{Name, with_name}
use Rattle.c_values.proofs.Options.{some_is}
use Rattle.expression_lang.specs.Expression.{Exp}
use Rattle.expression_lang.specs.Sort.{Kind, Scalar, Scope, sort_of_kind}
use Rattle.expression_lang.specs.Signature.{Binder, Signature, names_of, kinds_of}
use Rattle.expression_lang.specs.Sorted.{names_with, program_sort, scalar_in, with_scalar, scalars_of, same_scalars, result_scalars, call_scalars}
use Rattle.expression_lang.proofs.SameScalars.{same_scalars_are}
use Rattle.monad_lang.specs.Program as M
use Rattle.monad_lang.specs.Program.{FinalFn, final_fn}
use Rattle.monad_lang.specs.Sorted.{signature_of}
use Rattle.exactness.specs.Triple.{result_names}
use Rattle.triple_lang.specs.Deriv.{Ground, Names}
use Rattle.hoare_check.specs.DeriveTable.{scope, behind}
use Rattle.hoare_check.specs.CodePosed.{IsPosed}
use Rattle.hoare_check.proofs.Posing.{behind_is}
use Rattle.hoare_check.proofs.Triples.{found_signature}

none_left : (n : ℕ) → suc n ≡ 0 → ⊥
none_left n h = omega (arith, h)

scalars_many : (g : Scope) (es : List Exp) (ss : List Scalar) → scalars_of g es ≡ Some ss → length es ≡ length ss
scalars_many g [] ss h = ap length (some_is h)
scalars_many g (e ∷ es) ss h = along (scalar_in (program_sort g e)) (scalars_of g es) (scalars_many g es) h
  where
    along : (o : Option Scalar) (p : Option (List Scalar)) → ((ts : List Scalar) → p ≡ Some ts → length es ≡ length ts) → with_scalar o p ≡ Some ss →
        suc (length es) ≡ length ss
    along (Some s) (Some ts) many h = ap suc (many ts refl) ∙ ap length (some_is h)
    along (Some s) None many h = absurd cc
    along None p many h = absurd cc

parameters_many : (bs : List Binder) → length (map sort_of_kind (kinds_of bs)) ≡ length (names_of bs)
parameters_many [] = refl
parameters_many (b ∷ bs) = ap suc (parameters_many bs)

-- what a call gives, by its function's signature
record CallSorts (s : Signature) (o : Option (List Scalar)) (cs : List Scalar) : Type 0 where
  pub own : List Scalar
  pub sorted : o ≡ Some own
  pub same : same_scalars (map sort_of_kind (kinds_of s.params)) own ≡ true
  pub given : result_scalars sort_of_kind s.result ≡ cs

call_sorts : (s : Signature) (o : Option (List Scalar)) (cs : List Scalar) → call_scalars sort_of_kind (Some s) o ≡ Some cs → CallSorts s o cs
call_sorts s None cs h = absurd cc
call_sorts s (Some ss) cs h = by_test (same_scalars (map sort_of_kind (kinds_of s.params)) ss) refl h
  where
    by_test : (b : Bool) → same_scalars (map sort_of_kind (kinds_of s.params)) ss ≡ b →
        (if b then Some (result_scalars sort_of_kind s.result) else None) ≡ Some cs → CallSorts s (Some ss) cs
    by_test true same h = record { own = ss; sorted = refl; same = same; given = some_is h }
    by_test false same h = absurd cc

-- with these results in place of its own
abbrev with_results : List Kind → FinalFn → FinalFn
with_results rs f = record { name = f.name; level = f.level; params = f.params; results = rs; body = f.body }

result_sorts : (f : FinalFn) (rs : List Kind) → f.results ≡ rs →
    result_scalars sort_of_kind (signature_of f).result ≡ result_scalars sort_of_kind (signature_of (with_results rs f)).result
result_sorts f rs h = ap (λ ks. result_scalars sort_of_kind (signature_of (with_results ks f)).result) h

results_as_many : (f : FinalFn) (rs : List Kind) → length (result_scalars sort_of_kind (signature_of (with_results rs f)).result) ≡ length (result_names rs)
results_as_many f [] = refl
results_as_many f (r ∷ rs) = refl

no_names : (xs : List Name) → length xs ≡ 0 → xs ≡ []
no_names [] h = refl
no_names (x ∷ xs) h = absurd (none_left (length xs) h)

module _ (k : Ground) (ns : Names) (g : Name) (es : List Exp) (xs : List Name) (q : Exp) (f : FinalFn) (found : final_fn k.unit.functions g ≡ Some f)
    (posed : IsPosed k ns (M.Call g es) xs q) where
  sorts : CallSorts (signature_of f) (scalars_of (scope k ns) es) posed.given
  sorts =
      call_sorts (signature_of f) (scalars_of (scope k ns) es) posed.given
      (subst (λ o. call_scalars sort_of_kind o (scalars_of (scope k ns) es) ≡ Some posed.given) (found_signature k.unit.functions g f found) posed.sorted)

  pub arguments_as_many : length es ≡ length (names_of f.params)
  arguments_as_many =
      scalars_many (scope k ns) es sorts.own sorts.sorted
      ∙ sym (ap length (same_scalars_are (map sort_of_kind (kinds_of f.params)) sorts.own sorts.same)) ∙ parameters_many f.params

  pub names_as_many : length xs ≡ length (result_names f.results)
  names_as_many = posed.many ∙ sym (ap length sorts.given) ∙ results_as_many f f.results

  -- without a result
  module _ (none : f.results ≡ []) where
    pub unnamed : xs ≡ []
    unnamed = no_names xs (names_as_many ∙ ap (λ rs. length (result_names rs)) none)

    pub behind_nothing : ns ≡ behind k (M.Call g es) xs ns
    behind_nothing = sym (ap (λ ys. behind k (M.Call g es) ys ns) unnamed)

  -- with one
  module _ (r : Kind) (rs : List Kind) (some : f.results ≡ r ∷ rs) where
    pub one_name : length xs ≡ 1
    one_name = names_as_many ∙ ap (λ rs. length (result_names rs)) some

    given_one : posed.given ≡ sort_of_kind r ∷ []
    given_one = sym sorts.given ∙ result_sorts f (r ∷ rs) some

    named : (x : Name) → xs ≡ x ∷ [] → names_with xs posed.given ns ≡ with_name x (Some (sort_of_kind r)) ns
    named x one = ap (λ ys. names_with ys posed.given ns) one ∙ ap (λ ss. names_with (x ∷ []) ss ns) given_one

    pub behind_result : (x : Name) → xs ≡ x ∷ [] → with_name x (Some (sort_of_kind r)) ns ≡ behind k (M.Call g es) xs ns
    behind_result x one = sym (behind_is k ns (M.Call g es) xs posed.given posed.sorted ∙ named x one)
