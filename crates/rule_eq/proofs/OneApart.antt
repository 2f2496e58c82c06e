-- Which rows of expressions are one step apart in one of them, by the first of both.
use Rattle.std.proofs.Common.{◌≡◌, ◌≢◌, ◌↔◌, List, [], ◌∷◌, ◌⊎◌, inl, inr, refl, sym, ap₂, ◌∙◌, subst}
use Rattle.expression_lang.specs.Expression.{Exp}
use Rattle.ac_expr.proofs.Apart.{one_is, is_one, none_left}
use Rattle.ac_expr.specs.Step.{at_each}
use Rattle.rule_eq.specs.Rule.{Point}
use Rattle.rule_eq.specs.Table.{OneApart, StepApart}

module _ (at : Point) where
  pub none_apart : (es : List Exp) → OneApart at [] es → ⊥
  none_apart es k = none_left at.setting.scope _ es k

  -- where the first of both differ, the others are the same
  pub first_apart : (a b : Exp) (es fs : List Exp) → b ≢ a → ((fs ≡ es) × StepApart at a b) ↔ OneApart at (a ∷ es) (b ∷ fs)
  first_apart a b es fs differ = (
    (λ h. is_one at.setting.scope at.facts (at_each at.facts es) a b es fs (inl (h.1, h.0))),
    (λ k. by (one_is at.setting.scope at.facts (at_each at.facts es) a b es fs k)),
  )
    where
      by : (StepApart at a b × (fs ≡ es)) ⊎ ((b ≡ a) × OneApart at es fs) → (fs ≡ es) × StepApart at a b
      by (inl h) = (h.1, h.0)
      by (inr h) = absurd (differ h.0)

  -- where they are the same, one of the others is, or all are the same and the first is from itself
  pub later_apart : (a : Exp) (es fs : List Exp) → (fs ≡ es → ⊥) → OneApart at es fs ↔ OneApart at (a ∷ es) (a ∷ fs)
  later_apart a es fs differ = (
    (λ k. is_one at.setting.scope at.facts (at_each at.facts es) a a es fs (inr (refl, k))),
    (λ k. by (one_is at.setting.scope at.facts (at_each at.facts es) a a es fs k)),
  )
    where
      by : (StepApart at a a × (fs ≡ es)) ⊎ ((a ≡ a) × OneApart at es fs) → OneApart at es fs
      by (inl h) = absurd (differ h.1)
      by (inr h) = h.1

  pub itself_apart : (a : Exp) (es : List Exp) → (StepApart at a a → ⊥) → OneApart at es es ↔ OneApart at (a ∷ es) (a ∷ es)
  itself_apart a es far = (
    (λ k. is_one at.setting.scope at.facts (at_each at.facts es) a a es es (inr (refl, k))),
    (λ k. by (one_is at.setting.scope at.facts (at_each at.facts es) a a es es k)),
  )
    where
      by : (StepApart at a a × (es ≡ es)) ⊎ ((a ≡ a) × OneApart at es es) → OneApart at es es
      by (inl h) = absurd (far h.0)
      by (inr h) = h.1

  pub this_apart : (a : Exp) (es : List Exp) → StepApart at a a → OneApart at (a ∷ es) (a ∷ es)
  this_apart a es k = is_one at.setting.scope at.facts (at_each at.facts es) a a es es (inl (k, refl))

  pub same_apart : (p : Type 0) (es fs : List Exp) → fs ≡ es → (p ↔ OneApart at es es) → (p ↔ OneApart at es fs)
  same_apart p es fs e k = subst (λ gs. p ↔ OneApart at es gs) (sym e) k

-- rows that are one step apart where what is left of them is

module _ (at : Point) (left right ones others : List Exp) (a b : Exp) (behind rest : List Exp)
    (same : OneApart at left right ↔ OneApart at ones others) (first : ones ≡ a ∷ behind) (second : others ≡ b ∷ rest) where
  heads : OneApart at left right ↔ OneApart at (a ∷ behind) (b ∷ rest)
  heads = subst (λ fs. OneApart at left right ↔ OneApart at (a ∷ behind) fs) second
      (subst (λ es. OneApart at left right ↔ OneApart at es others) first same)

  pub found : b ≢ a → ((rest ≡ behind) × StepApart at a b) ↔ OneApart at left right
  found differ =
      let k = first_apart at a b behind rest differ in
      ((λ h. heads.1 (k.0 h)), (λ h. k.1 (heads.0 h)))

  pub goes_on : b ≡ a → rest ≢ behind → OneApart at left right ↔ OneApart at behind rest
  goes_on e differ =
      let k = later_apart at a behind rest differ in
      let h = subst (λ c. OneApart at left right ↔ OneApart at (a ∷ behind) (c ∷ rest)) e heads in
      ((λ i. k.1 (h.0 i)), (λ i. h.1 (k.0 i)))

  pub rest_differs : b ≡ a → others ≢ ones → rest ≢ behind
  rest_differs e differ i = differ (second ∙ ap₂ (λ c cs. c ∷ cs) e i ∙ sym first)

-- a row that is one step apart from itself where what is left of it is

module _ (at : Point) (exps rest : List Exp) (same : OneApart at rest rest ↔ OneApart at exps exps) where
  module _ (a : Exp) (behind : List Exp) (first : rest ≡ a ∷ behind) where
    pub this_itself : StepApart at a a → OneApart at exps exps
    this_itself k = same.0 (subst (λ es. OneApart at es es) (sym first) (this_apart at a behind k))

    pub rest_itself : (StepApart at a a → ⊥) → OneApart at behind behind ↔ OneApart at exps exps
    rest_itself far =
        let k = itself_apart at a behind far in (
          (λ h. same.0 (subst (λ es. OneApart at es es) (sym first) (k.0 h))),
          (λ h. k.1 (subst (λ es. OneApart at es es) first (same.1 h))),
        )
