-- What names and values show, of which the names are at their end, or both have a first.
use Rattle.std.proofs.Common.{◌≡◌, ◌↔◌, ◌==◌, List, [], ◌∷◌, map, length, refl, ap₂, suc, true, eqb-true, arith}
use Rattle.c_values.specs.Name.{Name}
use Rattle.expression_lang.specs.Expression.{Exp, Var}

module _ {A B : Type 0} (f : A → Name) (g : B → Exp) where
  abbrev vars : List A → List Exp
  vars xs = map (λ x. Var x) (map f xs)

  pub vars_end : (xs : List A) (ys : List B) → length xs ≡ 0 → ((length ys == 0) ≡ true) ↔ (map g ys ≡ map (λ x. Var x) (map f xs))
  vars_end [] [] h = ((λ e. refl), (λ e. refl))
  vars_end [] (y ∷ ys) h = (
    (λ e. let clash : suc (length ys) ≡ 0 = eqb-true (suc (length ys)) 0 e in absurd (omega arith)),
    (λ e. let same : map g (y ∷ ys) ≡ [] = e in cc),
  )
  vars_end (x ∷ xs) ys h = absurd (omega arith)

  pub vars_go_on : (x : A) (y : B) (xs : List A) (ys : List B) → g y ≡ Var (f x) →
      (map g ys ≡ map (λ x. Var x) (map f xs)) ↔ (map g (y ∷ ys) ≡ map (λ x. Var x) (map f (x ∷ xs)))
  vars_go_on x y xs ys h = (
    (λ e. ap₂ (λ a b. a ∷ b) h e),
    (λ e. let same : g y ∷ map g ys ≡ Var (f x) ∷ vars xs = e in cc),
  )
