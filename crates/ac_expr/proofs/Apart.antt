-- When two expressions are one step apart, case by case: what a test of it looks at.
use Rattle.std.proofs.Common.{◌≡◌, List, [], ◌∷◌, ◌⊎◌, inl, inr, refl, sym, subst}
use Rattle.expression_lang.specs.Expression.{Exp}
use Rattle.expression_lang.specs.Sort.{Scope}
use Rattle.ac_expr.specs.Fact.{Fact}
use Rattle.ac_expr.specs.Heads.{head, children}
use Rattle.ac_expr.specs.Step.{IsStep, OneStepApart, shorter, longer, inside, OneOfThem, this, later, child_facts}

module _ (g : Scope) where
  abbrev pub Inside : List Fact → Exp → Exp → Type 0
  Inside fs a b = (head b ≡ head a) × OneOfThem g (child_facts fs a) (children a) (children b)

  pub apart_is : (fs : List Fact) (a b : Exp) → OneStepApart g fs a b → IsStep g fs a b ⊎ IsStep g fs b a ⊎ Inside fs a b
  apart_is fs a b (shorter k) = inl k
  apart_is fs a b (longer k) = inr (inl k)
  apart_is fs a b (inside h k) = inr (inr (h, k))

  pub is_apart : (fs : List Fact) (a b : Exp) → IsStep g fs a b ⊎ IsStep g fs b a ⊎ Inside fs a b → OneStepApart g fs a b
  is_apart fs a b (inl k) = shorter k
  is_apart fs a b (inr (inl k)) = longer k
  is_apart fs a b (inr (inr k)) = inside k.0 k.1

  -- the first of them, and then all others are the same; or one of the others
  pub one_is : (fs : List Fact) (fss : List (List Fact)) (a b : Exp) (as' bs : List Exp) → OneOfThem g (fs ∷ fss) (a ∷ as') (b ∷ bs) → (OneStepApart g fs a b × (bs ≡ as')) ⊎ ((b ≡ a) × OneOfThem g fss as' bs)
  one_is fs fss a b as' _ (this k) = inl (k, refl)
  one_is fs fss a _ as' bs (later k) = inr (refl, k)

  pub is_one : (fs : List Fact) (fss : List (List Fact)) (a b : Exp) (as' bs : List Exp) → (OneStepApart g fs a b × (bs ≡ as')) ⊎ ((b ≡ a) × OneOfThem g fss as' bs) → OneOfThem g (fs ∷ fss) (a ∷ as') (b ∷ bs)
  is_one fs fss a b as' bs (inl k) = subst (λ es. OneOfThem g (fs ∷ fss) (a ∷ as') (b ∷ es)) (sym k.1) (this k.0)
  is_one fs fss a b as' bs (inr k) = subst (λ e. OneOfThem g (fs ∷ fss) (a ∷ as') (e ∷ bs)) (sym k.0) (later k.1)

  abbrev Some : List Exp → Type 0
  Some [] = ⊥
  Some (e ∷ es) = Unit {0}

  there : (fss : List (List Fact)) (as' bs : List Exp) → OneOfThem g fss as' bs → Some as' × Some bs
  there _ _ _ (this k) = (tt, tt)
  there _ _ _ (later k) = (tt, tt)

  pub none_left : (fss : List (List Fact)) (bs : List Exp) → OneOfThem g fss [] bs → ⊥
  none_left fss bs k = (there fss [] bs k).0

  pub none_right : (fss : List (List Fact)) (as' : List Exp) → OneOfThem g fss as' [] → ⊥
  none_right fss as' k = (there fss as' [] k).1
