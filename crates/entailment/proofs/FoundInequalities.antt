-- The code finds what an inequality has, taken so often, exactly where all is narrow on the way.
use Rattle.std.proofs.Common.{◌≡◌, Bool, true, false, Option, Some, None, ℤ, pos, ◌+ℤ◌, ◌-ℤ◌, ◌*ℤ◌, inr, ap, ap₂, refl, ◌∙◌}
use Rattle.std.proofs.Math.IntN.{*ℤ-zero}
use Rattle.std.proofs.lemmas.Bool.{and_parts}
use Rattle.std.proofs.lemmas.Bool.Decides.{Decides-int_eq}
use Rattle.expression_lang.specs.Expression.{Exp, TruthLit}
use Rattle.expression_lang.proofs.Decided.{number_is}
use Rattle.entailment.specs.Linear.{Place, Constant, Unknown, coefficient, Inequality, one_where, opposite, excess, times, IsFine, IsDenied}
use Rattle.entailment.specs.CodeSums.{found, each_unknown, excess_found, times_found, each_in, first_found, may_deny}
use Rattle.entailment.proofs.Narrowed.{IsThere, IsAllThere, Finds, one_there, two_there, there_one, there_two, all_one, all_two}
use Rattle.entailment.proofs.FoundCoefficients.{found_all, found_is, form_of, found_of, exp_found, all_found}
use Rattle.entailment.proofs.AbsentUnknowns.{IsGone, one_absent, two_absent, unknown_absent}

-- An inequality, taken so often

abbrev difference : Inequality → Place → ℤ → ℤ → ℤ
difference i k x y = (x -ℤ y) +ℤ one_where i.strict k

module _ (n : ℤ) where
  pub times_all : (o : Option Inequality) → IsFine n o → (k : Place) → times_found n o k ≡ Some (times n o k)
  times_all None h k = absurd h
  times_all (Some i) h k =
      let both = there_two (difference i k) (found k i.left) (found k i.right) (coefficient k i.left) (coefficient k i.right) in
      there_one (λ x. n *ℤ x) (excess_found k i) (excess i k) (both (found_all k i.left h.0) (found_all k i.right h.1) (h.2 k)) (h.3 k)

  excess_is : (i : Inequality) → Finds (λ k. excess_found k i) (excess i)
  excess_is i k m h =
      let t = two_there (difference i k) (found k i.left) (found k i.right) m h in
      t.5 ∙ ap₂ (difference i k) (found_is k i.left t.0 t.2) (found_is k i.right t.1 t.3)

  pub times_is : (o : Option Inequality) → Finds (times_found n o) (times n o)
  times_is None k m h = absurd cc
  times_is (Some i) k m h =
      let t = one_there (λ x. n *ℤ x) (excess_found k i) m h in
      t.3 ∙ ap (λ x. n *ℤ x) (excess_is i k t.0 t.1)

  pub all_times : (o : Option Inequality) → IsAllThere (times_found n o) → IsFine n o
  all_times None h = absurd (let k = (h Constant).1 in cc)
  all_times (Some i) h =
      let t = all_one (λ x. n *ℤ x) (λ k. excess_found k i) (excess i) (excess_is i) h in
      let d = all_two (difference i) (found_of i.left) (found_of i.right) (form_of i.left) (form_of i.right) (exp_found i.left) (exp_found i.right) t.0 in
      (all_found i.left d.0, all_found i.right d.1, d.2, t.1)

  pub times_absent : (test : Exp → Bool) (u : Exp) (o : Option Inequality) → IsThere (times_found n o Constant) → each_in test o ≡ true
      → IsGone test u (times_found n o (Unknown u))
  times_absent test u None h p = absurd (let k = h.1 in cc)
  times_absent test u (Some i) h p =
      let t = one_there (λ x. n *ℤ x) (excess_found Constant i) h.0 h.1 in
      let d = two_there (difference i Constant) (found Constant i.left) (found Constant i.right) t.0 t.1 in
      let each = and_parts (each_unknown test i.left) (each_unknown test i.right) p in
      let left = unknown_absent test u i.left (d.0, d.2) each.0 in
      let right = unknown_absent test u i.right (d.1, d.3) each.1 in
      one_absent test u (λ x. n *ℤ x) (excess_found (Unknown u) i) (*ℤ-zero n)
      (two_absent test u (difference i (Unknown u)) (found (Unknown u) i.left) (found (Unknown u) i.right) (none i.strict) left right)
    where
      none : (strict : Bool) → (pos 0 -ℤ pos 0) +ℤ one_where strict (Unknown u) ≡ pos 0
      none true = refl
      none false = refl

-- the opposite of a claim

pub deny_all : (n : ℤ) (q : Exp) → IsDenied n q → (k : Place) → first_found n q k ≡ Some (times n (opposite q) k)
deny_all n (TruthLit false) h k = refl
deny_all n q h k = times_all n (opposite q) h.1 k

pub deny_is : (n : ℤ) (q : Exp) → Finds (first_found n q) (times n (opposite q))
deny_is n (TruthLit false) k m h = cc
deny_is n q k m h = times_is n (opposite q) k m h

pub all_deny : (n : ℤ) (q : Exp) → may_deny n q ≡ true → IsAllThere (first_found n q) → IsDenied n q
all_deny n (TruthLit false) d h = number_is n (pos 0) d
all_deny n q d h = (d, all_times n (opposite q) h)

pub denied_may : (n : ℤ) (q : Exp) → IsDenied n q → may_deny n q ≡ true
denied_may n (TruthLit false) h = (Decides-int_eq n (pos 0)).1 h
denied_may n q h = h.0

pub deny_absent : (test : Exp → Bool) (u : Exp) (n : ℤ) (q : Exp) → IsThere (first_found n q Constant) → each_in test (opposite q) ≡ true
    → IsGone test u (first_found n q (Unknown u))
deny_absent test u n (TruthLit false) h p = inr refl
deny_absent test u n q h p = times_absent n test u (opposite q) h p
