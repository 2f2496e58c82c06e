-- Where the constant is found, an unknown has no coefficient in an expression, unless it passes the test that each unknown of the
-- expression passes.
use Rattle.std.proofs.Common.{◌≡◌, Bool, true, false, cond, Option, Some, ℤ, pos, neg_ℤ, ◌+ℤ◌, ◌-ℤ◌, ◌*ℤ◌, ◌⊎◌, inl, inr, ap, ap₂, subst, sym, refl, ◌∙◌}
use Rattle.std.proofs.lemmas.Bool.{and_parts, and_from}
use Rattle.std.proofs.Math.IntN.{*ℤ-zero}
use Rattle.c_values.specs.Number.{Add, Sub, Mul}
use Rattle.expression_lang.specs.Expression.{Exp, NumberLit, Arith, Negate}
use Rattle.ac_expr.specs.SameExp.{same_exp}
use Rattle.ac_expr.proofs.SameExps.{exp_is}
use Rattle.entailment.specs.Linear.{Constant, Unknown, of_unknown}
use Rattle.entailment.specs.CodeSums.{narrow, of_one, of_two, at_literal, found, each_unknown}
use Rattle.entailment.proofs.Narrowed.{IsThere, some_narrow, one_there, two_there}
use Rattle.entailment.proofs.FoundCoefficients.{literal_is}

module _ (test : Exp → Bool) (u : Exp) where
  -- nothing is found, or it passes
  abbrev pub IsGone : Option ℤ → Type 0
  IsGone o = (test u ≡ true) ⊎ (o ≡ Some (pos 0))

  leaf_absent : (e : Exp) → test e ≡ true → IsGone (Some (of_unknown (Unknown u) e))
  leaf_absent e h = by (same_exp u e) refl
    where
      by : (b : Bool) → same_exp u e ≡ b → IsGone (Some (of_unknown (Unknown u) e))
      by true k = inl (subst (λ x. test x ≡ true) (sym (exp_is u e k)) h)
      by false k = inr (ap (λ b. Some (cond b (pos 1) (pos 0))) k)

  pub two_absent : (f : ℤ → ℤ → ℤ) (o p : Option ℤ) → f (pos 0) (pos 0) ≡ pos 0 → IsGone o → IsGone p → IsGone (of_two f o p)
  two_absent f o p z (inl h) q = inl h
  two_absent f o p z (inr h) (inl i) = inl i
  two_absent f o p z (inr h) (inr i) = inr (ap₂ (of_two f) h i ∙ ap narrow z)

  pub one_absent : (f : ℤ → ℤ) (o : Option ℤ) → f (pos 0) ≡ pos 0 → IsGone o → IsGone (of_one f o)
  one_absent f o z (inl h) = inl h
  one_absent f o z (inr h) = inr (ap (of_one f) h ∙ ap narrow z)

  product_absent : (n m : ℤ) (o : Option ℤ) → narrow n ≡ Some m → IsGone o → IsGone (of_two (λ x y. x *ℤ y) (narrow n) o)
  product_absent n m o h (inl i) = inl i
  product_absent n m o h (inr i) = inr (ap₂ (of_two (λ x y. x *ℤ y)) h i ∙ ap narrow (*ℤ-zero m))

  pub unknown_absent : (e : Exp) → IsThere (found Constant e) → each_unknown test e ≡ true → IsGone (found (Unknown u) e)
  unknown_absent (NumberLit n) h p = inr (ap (at_literal (Unknown u)) (some_narrow n (literal_is Constant n h.0 h.1).0))
  unknown_absent (Arith Add a b) h p =
      let t = two_there (λ x y. x +ℤ y) (found Constant a) (found Constant b) h.0 h.1 in
      let i = and_parts (each_unknown test a) (each_unknown test b) p in
      two_absent (λ x y. x +ℤ y) (found (Unknown u) a) (found (Unknown u) b) refl (unknown_absent a (t.0, t.2) i.0) (unknown_absent b (t.1, t.3) i.1)
  unknown_absent (Arith Sub a b) h p =
      let t = two_there (λ x y. x -ℤ y) (found Constant a) (found Constant b) h.0 h.1 in
      let i = and_parts (each_unknown test a) (each_unknown test b) p in
      two_absent (λ x y. x -ℤ y) (found (Unknown u) a) (found (Unknown u) b) refl (unknown_absent a (t.0, t.2) i.0) (unknown_absent b (t.1, t.3) i.1)
  unknown_absent (Arith Mul (NumberLit n) b) h p =
      let t = two_there (λ x y. x *ℤ y) (narrow n) (found Constant b) h.0 h.1 in
      product_absent n t.0 (found (Unknown u) b) t.2 (unknown_absent b (t.1, t.3) p)
  unknown_absent (Arith Mul a (NumberLit n)) h p =
      let t = two_there (λ x y. x *ℤ y) (narrow n) (found Constant a) h.0 h.1 in
      product_absent n t.0 (found (Unknown u) a) t.2 (unknown_absent a (t.1, t.3) p)
  unknown_absent (Negate a) h p =
      let t = one_there neg_ℤ (found Constant a) h.0 h.1 in
      one_absent neg_ℤ (found (Unknown u) a) refl (unknown_absent a (t.0, t.1) p)
  unknown_absent e h p = leaf_absent e p

-- a test that all expressions pass
pub each_passes : (test : Exp → Bool) → ((u : Exp) → test u ≡ true) → (e : Exp) → each_unknown test e ≡ true
each_passes test h (NumberLit n) = refl
each_passes test h (Arith Add a b) = and_from (each_unknown test a) (each_unknown test b) (each_passes test h a) (each_passes test h b)
each_passes test h (Arith Sub a b) = and_from (each_unknown test a) (each_unknown test b) (each_passes test h a) (each_passes test h b)
each_passes test h (Arith Mul (NumberLit n) b) = each_passes test h b
each_passes test h (Arith Mul a (NumberLit n)) = each_passes test h a
each_passes test h (Negate a) = each_passes test h a
each_passes test h e = h e
