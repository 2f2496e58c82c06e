-- When a claim of two sides and a truth value are one step apart: what a test of them looks at.
use Rattle.std.proofs.Common.{◌≡◌, ◌↔◌, Bool, true, List, [], ◌∷◌, Some, None, ◌⊎◌, inl, inr, refl, sym, ap, subst}
use Rattle.c_values.specs.Value.{Value, Bits, Number, Truth, Parts}
use Rattle.c_values.proofs.Options.{some_is}
use Rattle.expression_lang.specs.Expression.{Exp, TruthLit}
use Rattle.expression_lang.specs.Sort.{Scope, sort_of, is_truth}
use Rattle.ac_expr.specs.Fact.{Fact}
use Rattle.ac_expr.specs.Heads.{head}
use Rattle.ac_expr.specs.Step.{constant, constant_value, IsItsValue, Shortens, IsStep, OneStepApart, inside, OneOfThem}
use Rattle.ac_expr.specs.CodeConstants.{computed}
use Rattle.ac_expr.proofs.Apart.{Inside, apart_is, one_is, is_one, none_left}
use Rattle.entailment.specs.declared.sides.Relation.{Relation}
use Rattle.entailment.specs.declared.sides.Relation.TheVariants.{AtMost, Equal}
use Rattle.entailment.specs.CodeSides.{related, AreEqual}
use Rattle.entailment.specs.CodeTruth.{truth_of, literal_truth}
use Rattle.entailment.proofs.TruthValues.{truth_sorted, value_says}

-- from the claim to its truth value

literal_is : (e : Exp) (t : Bool) → literal_truth e ≡ Some t → e ≡ TruthLit t
literal_is (TruthLit b) t h = ap (λ x. TruthLit x) (some_is h)
literal_is _ t h = absurd cc

module _ (g : Scope) (fs : List Fact) (r : Relation) (a b : Exp) where
  equal_there : (r' : Relation) (t : Bool) → (t ≡ true) × AreEqual r' a b → Shortens g fs (related r' a b) (TruthLit t)
  equal_there AtMost t h = h.1
  equal_there Equal t h = (h.1, ap (λ x. TruthLit x) h.0)

  are_equal : (r' : Relation) (t : Bool) → Shortens g fs (related r' a b) (TruthLit t) → (t ≡ true) × AreEqual r' a b
  are_equal AtMost t h = absurd h
  are_equal Equal t h = let i : t ≡ true = cc in (i, h.0)

  -- it is no other literal
  its_truth : (r' : Relation) (e : Exp) → IsStep g fs (related r' a b) e → (t : Bool) × (e ≡ TruthLit t)
  its_truth AtMost e (inl h) = absurd h
  its_truth AtMost e (inr h) = (_, sym (some_is h.1))
  its_truth Equal e (inl h) = (true, h.1)
  its_truth Equal e (inr h) = (_, sym (some_is h.1))

  module _ (sorted : is_truth (sort_of g (related r a b)) ≡ true) where
    pub given_truth : (t : Bool) (e : Exp) → literal_truth e ≡ Some t →
        (((t ≡ true) × AreEqual r a b) ⊎ (truth_of (computed g.layout (related r a b)) ≡ Some t)) ↔ IsStep g fs (related r a b) e
    given_truth t e h =
        let is = literal_is e t h in
        let says = value_says g (related r a b) (truth_sorted g (related r a b) sorted) t in (
          λ k. subst (λ x. IsStep g fs (related r a b) x) (sym is) (elim k [ inl i ↦ inl (equal_there r t i) | inr i ↦ inr (says.0 i) ]),
          λ k. elim (subst (λ x. IsStep g fs (related r a b) x) is k) [ inl i ↦ inl (are_equal r t i) | inr i ↦ inr (says.1 i) ],
        )

  pub not_given : (e : Exp) → literal_truth e ≡ None → IsStep g fs (related r a b) e → ⊥
  not_given e h k = let i = its_truth r e k in let j : literal_truth e ≡ Some i.0 = ap literal_truth i.1 in absurd cc

  -- from an expression to the claim
  no_value_of : (r' : Relation) (e : Exp) → IsItsValue g.layout e (related r' a b) → ⊥
  no_value_of r' e h = by (constant_value g.layout e) r' h.1
    where
      by : (v : Value) (r'' : Relation) → constant v ≡ Some (related r'' a b) → ⊥
      by (Bits w) AtMost i = cc
      by (Bits w) Equal i = cc
      by (Number n) AtMost i = cc
      by (Number n) Equal i = cc
      by (Truth t) AtMost i = cc
      by (Truth t) Equal i = cc
      by (Parts vs) AtMost i = cc
      by (Parts vs) Equal i = cc

  pub only_shortens : (e : Exp) → IsStep g fs e (related r a b) → Shortens g fs e (related r a b)
  only_shortens e (inl h) = h
  only_shortens e (inr h) = absurd (no_value_of r e h)

  -- by the two sides

  abbrev OneSide : Exp → Exp → Type 0
  OneSide c d = ((d ≡ b) × OneStepApart g fs a c) ⊎ ((c ≡ a) × OneStepApart g fs b d)

  abbrev OneOfTwo : Exp → Exp → Type 0
  OneOfTwo c d = OneOfThem g (fs ∷ fs ∷ []) (a ∷ b ∷ []) (c ∷ d ∷ [])

  one_side : (c d : Exp) → OneOfTwo c d → OneSide c d
  one_side c d h = elim (one_is g fs (fs ∷ []) a c (b ∷ []) (d ∷ []) h) [ inl k ↦ inl (same k.1, k.0) | inr k ↦ inr (k.0, last k.1) ]
    where
      same : d ∷ [] ≡ b ∷ [] → d ≡ b
      same e = cc

      last : OneOfThem g (fs ∷ []) (b ∷ []) (d ∷ []) → OneStepApart g fs b d
      last k = elim (one_is g fs [] b d [] [] k) [ inl m ↦ m.0 | inr m ↦ absurd (none_left g [] [] m.1) ]

  side_there : (c d : Exp) → OneSide c d → OneOfTwo c d
  side_there c d (inl h) = is_one g fs (fs ∷ []) a c (b ∷ []) (d ∷ []) (inl (h.1, ap (λ x. x ∷ []) h.0))
  side_there c d (inr h) = is_one g fs (fs ∷ []) a c (b ∷ []) (d ∷ []) (inr (h.0, is_one g fs [] b d [] [] (inl (h.1, refl))))

  in_sides : (r' : Relation) (c d : Exp) → Inside g fs (related r' a b) (related r' c d) → OneSide c d
  in_sides AtMost c d h = one_side c d h.1
  in_sides Equal c d h = one_side c d h.1

  sides_there : (r' : Relation) (c d : Exp) → OneSide c d → OneStepApart g fs (related r' a b) (related r' c d)
  sides_there AtMost c d h = inside refl (side_there c d h)
  sides_there Equal c d h = inside refl (side_there c d h)

  -- where no row of the table leads from one to the other
  module _ (e : Exp) (no_given : IsStep g fs (related r a b) e → ⊥) (no_longer : Shortens g fs e (related r a b) → ⊥) where
    within : OneStepApart g fs (related r a b) e → Inside g fs (related r a b) e
    within k = elim (apart_is g fs (related r a b) e k) [
      | inl x ↦ absurd (no_given x)
      | inr x ↦ elim x [ inl y ↦ absurd (no_longer (only_shortens e y)) | inr y ↦ y ]
    ]

    pub by_sides : (c d : Exp) → e ≡ related r c d → OneSide c d ↔ OneStepApart g fs (related r a b) e
    by_sides c d is = (
      λ k. subst (λ x. OneStepApart g fs (related r a b) x) (sym is) (sides_there r c d k),
      λ k. in_sides r c d (subst (λ x. Inside g fs (related r a b) x) is (within k)),
    )

    pub other_head : (head e ≡ head (related r a b) → ⊥) → OneStepApart g fs (related r a b) e → ⊥
    other_head differ k = differ (within k).0
