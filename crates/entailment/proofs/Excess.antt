-- What is known to be at most 0 is: the excess of an inequality that holds, taken so often, and the sum of such.
use Rattle.std.proofs.Common.{◌≡◌, Bool, true, false, List, [], ◌∷◌, ◌++◌, Option, Some, None, ℤ, pos, neg_ℤ, ◌+ℤ◌, ◌-ℤ◌, ◌*ℤ◌, ◌≤ℤ◌, ◌⊎◌, inl, inr, ap, ap₂, subst, sym, refl, ◌∙◌, arith}
use Rattle.std.specs.Prelude.{int_le}
use Rattle.std.proofs.lemmas.Int.{ints}
use Rattle.std.proofs.Math.IntN.{*ℤ-zero}
use Rattle.c_values.specs.Layout.{Layout}
use Rattle.c_values.specs.Value.{Value, Bits, Number, Truth, Parts, number_in, same_value}
use Rattle.expression_lang.specs.Expression.{Exp, TruthLit, Lt, Le, Eq}
use Rattle.expression_lang.specs.Evaluation.{Env, State, value, holds}
use Rattle.expression_lang.proofs.Decided.{number_is}
use Rattle.triple_lang.specs.Entail.{Weighed}
use Rattle.entailment.specs.Linear.{Place, coefficient, Inequality, stated, opposite, one_where, excess, times, IsFine, is_equation, IsDenied}
use Rattle.entailment.proofs.Products.{product_at_most}
use Rattle.entailment.proofs.LinearForms.{worth-add, worth-neg, worth-times, worth-constant}
use Rattle.entailment.proofs.Distinct.{distinct}
use Rattle.entailment.proofs.Unknowns.{unknowns, AreAmong, first_among, last_among, number_at, summed, exp_summed}

abbrev pub unknowns_in : Option Inequality → List Exp
unknowns_in None = []
unknowns_in (Some i) = unknowns i.left ++ unknowns i.right

abbrev pub unknowns_of : List Weighed → List Exp
unknowns_of [] = []
unknowns_of (w ∷ ws) = unknowns_in (stated w.fact) ++ unknowns_of ws

-- one where it is strict
abbrev one_if : Bool → ℤ
one_if true = pos 1
one_if false = pos 0

-- the numbers of values that are the same
same_numbers : (v w : Value) → same_value v w ≡ true → number_in v ≡ number_in w
same_numbers (Number m) (Number n) h = number_is m n h
same_numbers (Number m) (Bits w) h = absurd cc
same_numbers (Number m) (Truth b) h = absurd cc
same_numbers (Number m) (Parts vs) h = absurd cc
same_numbers (Bits v) (Number n) h = absurd cc
same_numbers (Truth b) (Number n) h = absurd cc
same_numbers (Parts vs) (Number n) h = absurd cc
same_numbers _ _ h = refl

module _ (l : Layout) (env : Env) (s : State) (us : List Exp) where
  abbrev number : Exp → ℤ
  number e = number_at l env s e

  abbrev sum : (Place → ℤ) → ℤ
  sum f = summed l env s us f

  abbrev AreCounted : Option Inequality → Type 0
  AreCounted i = AreAmong (unknowns_in i) us

  abbrev excess_at : Inequality → ℤ
  excess_at i = (number i.left -ℤ number i.right) +ℤ one_if i.strict

  one_summed : (strict : Bool) → sum (one_where strict) ≡ one_if strict
  one_summed true = worth-constant number (distinct us) (one_where true) (λ u. refl)
  one_summed false = worth-constant number (distinct us) (one_where false) (λ u. refl)

  difference_summed : (a b : Exp) → AreAmong (unknowns a ++ unknowns b) us → sum (λ k. coefficient k a -ℤ coefficient k b) ≡ number a -ℤ number b
  difference_summed a b h =
      worth-add number (distinct us) (λ k. coefficient k a) (λ k. neg_ℤ (coefficient k b))
      ∙ ap₂ (λ x y. x +ℤ y)
      (exp_summed l env s us a (first_among (unknowns a) (unknowns b) us h))
      (worth-neg number (distinct us) (λ k. coefficient k b) ∙ ap neg_ℤ (exp_summed l env s us b (last_among (unknowns a) (unknowns b) us h)))

  excess_summed : (i : Inequality) → AreCounted (Some i) → sum (excess i) ≡ excess_at i
  excess_summed i h =
      worth-add number (distinct us) (λ k. coefficient k i.left -ℤ coefficient k i.right) (one_where i.strict)
      ∙ ap₂ (λ x y. x +ℤ y) (difference_summed i.left i.right h) (one_summed i.strict)

  times_summed : (n : ℤ) (i : Inequality) → AreCounted (Some i) → sum (times n (Some i)) ≡ n *ℤ excess_at i
  times_summed n i h = worth-times number (distinct us) n (excess i) ∙ ap (λ x. n *ℤ x) (excess_summed i h)

  -- so often, which isn't less than never
  often_at_most : (n : ℤ) (i : Inequality) → AreCounted (Some i) → int_le (pos 0) n ≡ true → excess_at i ≤ℤ pos 0 → sum (times n (Some i)) ≤ℤ pos 0
  often_at_most n i h p q = subst (λ x. x ≤ℤ pos 0) (sym (times_summed n i h)) (product_at_most n (excess_at i) (omega (arith, ints)) q)

  nothing_at_most : (n : ℤ) → sum (times n None) ≤ℤ pos 0
  nothing_at_most n = let none = worth-constant number (distinct us) (times n None) (λ u. refl) in omega (arith, ints)

  pub fact_at_most : (n : ℤ) (e : Exp) → holds l env s e ≡ true → AreCounted (stated e) → IsFine n (stated e)
      → (is_equation e ≡ true) ⊎ (int_le (pos 0) n ≡ true) → sum (times n (stated e)) ≤ℤ pos 0
  fact_at_most n (Le a b) t h f (inl p) = absurd cc
  fact_at_most n (Le a b) t h f (inr p) = often_at_most n (record { left = a; right = b; strict = false }) h p (omega (arith, ints))
  fact_at_most n (Lt a b) t h f (inl p) = absurd cc
  fact_at_most n (Lt a b) t h f (inr p) = often_at_most n (record { left = a; right = b; strict = true }) h p (omega (arith, ints))
  fact_at_most n (Eq a b) t h f p =
      let same = same_numbers (value l env s a) (value l env s b) t in
      let i : Inequality = record { left = a; right = b; strict = false } in
      let none : excess_at i ≡ pos 0 = omega (arith, ints) in
      let is = times_summed n i h ∙ ap (λ x. n *ℤ x) none ∙ *ℤ-zero n in
      omega (arith, ints)
  fact_at_most n e t h f p = absurd f

  pub opposite_at_most : (n : ℤ) (q : Exp) → holds l env s q ≡ false → AreCounted (opposite q) → IsDenied n q → sum (times n (opposite q)) ≤ℤ pos 0
  opposite_at_most n (TruthLit false) t h d = nothing_at_most n
  opposite_at_most n (Le a b) t h d = often_at_most n (record { left = b; right = a; strict = true }) h d.0 (omega (arith, ints))
  opposite_at_most n (Lt a b) t h d = often_at_most n (record { left = b; right = a; strict = false }) h d.0 (omega (arith, ints))
  opposite_at_most n q t h d = absurd d.1
