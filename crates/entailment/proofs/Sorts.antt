-- The sorts of an assertion's parts, by its own.
use Rattle.std.proofs.Common.{◌≡◌, ℤ, Bool, true, false, ◌&&◌, refl, ap}
use Rattle.std.proofs.lemmas.Bool.{and_parts, false≢true}
use Rattle.expression_lang.specs.Expression.{Exp, NumberLit, Le, Between}
use Rattle.expression_lang.specs.Sort.{Scope, sort_of, is_truth, is_number, truth_sort, where_holds}
use Rattle.entailment.specs.Table.{IsAssertion}

test_holds : (b : Bool) → is_truth (where_holds b truth_sort) ≡ true → b ≡ true
test_holds true h = refl
test_holds false h = absurd (false≢true h)

module _ (g : Scope) where
  abbrev pub IsTruth : Exp → Type 0
  IsTruth e = is_truth (sort_of g e) ≡ true

  pub assertion_sorted : (lifted : Bool) (e : Exp) → IsAssertion lifted g e → IsTruth e
  assertion_sorted lifted e h = (and_parts (is_truth (sort_of g e)) _ h).0

  -- of an `and`, an `or` and an `imp`
  pub sides_sorted : (a b : Exp) → is_truth (where_holds (is_truth (sort_of g a) && is_truth (sort_of g b)) truth_sort) ≡ true → IsTruth a × IsTruth b
  sides_sorted a b h = and_parts (is_truth (sort_of g a)) (is_truth (sort_of g b)) (test_holds _ h)

  pub ends_sorted : (low : ℤ) (e : Exp) (high : ℤ) → IsTruth (Between low e high) → IsTruth (Le (NumberLit low) e) × IsTruth (Le e (NumberLit high))
  ends_sorted low e high h =
      let k = test_holds (is_number (sort_of g e)) h in
      (ap (λ b. is_truth (where_holds (true && b) truth_sort)) k, ap (λ b. is_truth (where_holds (b && true) truth_sort)) k)
