-- What the code asks is what linear arithmetic asks.
use Rattle.std.proofs.Common.{◌≡◌, ◌↔◌, ◌⊎◌, IsTrue, Bool, true, false, List, [], ◌∷◌, Option, Some, None, ℤ, pos, inl, inr, ap, subst, sym, refl, ◌∙◌, ◌&&◌}
use Rattle.std.specs.Prelude.{int_lt}
use Rattle.std.proofs.lemmas.Bool.{and_parts, and_from, false≢true}
use Rattle.expression_lang.specs.Expression.{Exp}
use Rattle.expression_lang.specs.Sort.{Scope}
use Rattle.expression_lang.proofs.Decided.{number_is}
use Rattle.ac_expr.specs.Fact.{Fact}
use Rattle.triple_lang.specs.Entail.{Weighed}
use Rattle.entailment.specs.Linear.{Place, Constant, Unknown, stated, opposite, times, Inequality, total, IsLinear}
use Rattle.entailment.specs.CodeSums.{first_found, total_found, is_zero, is_positive, each_unknown, each_in, each_in_all, cancels, may_deny, contradicts, AllMayTake, IsFound}
use Rattle.entailment.proofs.Narrowed.{IsThere, IsAllThere}
use Rattle.entailment.proofs.AbsentUnknowns.{each_passes}
use Rattle.entailment.proofs.FoundInequalities.{deny_all, deny_is, all_deny, denied_may, deny_absent}
use Rattle.entailment.proofs.FoundTotals.{total_there, total_is, total_absent, total_all, taken_may, all_total}

in_passes : (test : Exp → Bool) → ((u : Exp) → test u ≡ true) → (o : Option Inequality) → each_in test o ≡ true
in_passes test h None = refl
in_passes test h (Some i) = and_from (each_unknown test i.left) (each_unknown test i.right) (each_passes test h i.left) (each_passes test h i.right)

all_pass : (test : Exp → Bool) → ((u : Exp) → test u ≡ true) → (ws : List Weighed) → each_in_all test ws ≡ true
all_pass test h [] = refl
all_pass test h (w ∷ ws) = and_from (each_in test (stated w.fact)) (each_in_all test ws) (in_passes test h (stated w.fact)) (all_pass test h ws)

zero_is : (o : Option ℤ) → is_zero o ≡ true → o ≡ Some (pos 0)
zero_is None h = absurd cc
zero_is (Some n) h = ap (λ (m : ℤ). Some m) (number_is n (pos 0) h)

positive_there : (o : Option ℤ) → is_positive o ≡ true → IsThere o
positive_there None h = absurd cc
positive_there (Some n) h = (n, refl)

either_way : (o : Option ℤ) → (is_zero o ≡ true) ⊎ (o ≡ Some (pos 0)) → o ≡ Some (pos 0)
either_way o (inl h) = zero_is o h
either_way o (inr h) = h

module _ (g : Scope) (fs : List Fact) (n : ℤ) (ws : List Weighed) (q : Exp) where
  abbrev sum : Place → ℤ
  sum k = total (times n (opposite q)) ws k

  abbrev found_sum : Place → Option ℤ
  found_sum k = total_found n ws q k

  abbrev test : Exp → Bool
  test u = cancels n ws q u

  linear_found : IsLinear g fs n ws q → IsFound g fs n ws q
  linear_found h =
      let is = λ (k : Place). total_all g fs ws (times n (opposite q)) h.taken k (first_found n q k) (deny_all n q h.denied k) in
      let none : (u : Exp) → test u ≡ true = λ u. ap is_zero (is (Unknown u) ∙ ap (λ (m : ℤ). Some m) (h.unknowns u)) in
      let positive : is_positive (found_sum Constant) ≡ true = ap is_positive (is Constant) ∙ h.constant in
      let denied = and_from (may_deny n q) (is_positive (found_sum Constant)) (denied_may n q h.denied) positive in
      let claim = and_from (may_deny n q && is_positive (found_sum Constant)) (each_in test (opposite q)) denied (in_passes test none (opposite q)) in
      let all = and_from (may_deny n q && is_positive (found_sum Constant) && each_in test (opposite q)) (each_in_all test ws) claim (all_pass test none ws) in
      (all, taken_may g fs ws (times n (opposite q)) h.taken)

  record Parts : Type 0 where
    deny : may_deny n q ≡ true
    positive : is_positive (found_sum Constant) ≡ true
    claim : each_in test (opposite q) ≡ true
    facts : each_in_all test ws ≡ true

  parts : contradicts n ws q ≡ true → Parts
  parts h =
      let all = and_parts (may_deny n q && is_positive (found_sum Constant) && each_in test (opposite q)) (each_in_all test ws) h in
      let claim = and_parts (may_deny n q && is_positive (found_sum Constant)) (each_in test (opposite q)) all.0 in
      let denied = and_parts (may_deny n q) (is_positive (found_sum Constant)) claim.0 in
      record { deny = denied.0; positive = denied.1; claim = claim.1; facts = all.1 }

  module _ (h : IsFound g fs n ws q) where
    constant_there : IsThere (found_sum Constant)
    constant_there = positive_there (found_sum Constant) (parts h.0).positive

    cancelled : (u : Exp) → found_sum (Unknown u) ≡ Some (pos 0)
    cancelled u =
        let p = parts h.0 in
        let first = total_there ws (first_found n q Constant) Constant constant_there in
        let one = deny_absent test u n q first p.claim in
        let all = total_absent test u ws (first_found n q Constant) (first_found n q (Unknown u)) constant_there p.facts one in
        either_way (found_sum (Unknown u)) all

    all_there : IsAllThere found_sum
    all_there Constant = constant_there
    all_there (Unknown u) = (pos 0, cancelled u)

    linear_from : IsLinear g fs n ws q
    linear_from =
        let all = all_total g fs ws (times n (opposite q)) (first_found n q) (deny_is n q) h.1 all_there in
        let is = total_is ws (times n (opposite q)) (first_found n q) (deny_is n q) in
        record {
          denied = all_deny n q (parts h.0).deny all.0;
          taken = all.1;
          unknowns = λ u. sym (is (Unknown u) (pos 0) (cancelled u));
          constant =
              subst (λ m. int_lt (pos 0) m ≡ true) (is Constant constant_there.0 constant_there.1)
              (subst (λ o. is_positive o ≡ true) constant_there.1 (parts h.0).positive);
        }

  -- by one test of the sum, and one of the facts
  pub where_contradicts : (t r : Bool) → t ≡ contradicts n ws q → t ≡ true → (IsTrue r ↔ AllMayTake g fs ws) → IsTrue r ↔ IsLinear g fs n ws q
  where_contradicts t r is h take = ((λ i. linear_from (sym is ∙ h, take.0 i)), (λ l. take.1 (linear_found l).1))

  pub where_not : (t : Bool) → t ≡ contradicts n ws q → t ≡ false → IsTrue t ↔ IsLinear g fs n ws q
  where_not t is h = ((λ i. absurd (false≢true (sym h ∙ i))), (λ l. is ∙ (linear_found l).0))
