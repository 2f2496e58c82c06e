-- What a list of expressions or starts and a list of names show, of which the first is at its end, or both have a first.
use Rattle.std.proofs.Common.{◌≡◌, ◌↔◌, ◌==◌, true, suc, List, [], ◌∷◌, length, refl, ap₂, eqb-true, arith, cond}
use Rattle.std.specs.Prelude.{map}
use Rattle.c_values.specs.Name.{Name, same_name}
use Rattle.expression_lang.specs.Expression.{Exp, Var}
use Rattle.monad_lang.specs.Program.{Start}
use Rattle.rule_local.specs.Table.{vars, vars_with, as_starts}

pub vars_end : {A B : Type 0} (f : A → Exp) (g : B → Name) (xs : List A) (ys : List B) → length xs ≡ 0 → ((length ys == 0) ≡ true) ↔ (map f xs ≡ vars (map g ys))
vars_end f g [] [] h = ((λ e. refl), (λ e. refl))
vars_end f g [] (y ∷ ys) h = (
  (λ e. let clash : suc (length ys) ≡ 0 = eqb-true (suc (length ys)) 0 e in absurd (omega arith)),
  (λ e. let same : [] ≡ vars (map g (y ∷ ys)) = e in cc),
)
vars_end f g (x ∷ xs) ys h = absurd (omega arith)

pub vars_on : {A B : Type 0} (f : A → Exp) (g : B → Name) (x : A) (y : B) (xs : List A) (ys : List B) → f x ≡ Var (g y) → (map f xs ≡ vars (map g ys)) ↔ (map f (x ∷ xs) ≡ vars (map g (y ∷ ys)))
vars_on f g x y xs ys h = ((λ e. ap₂ (λ a b. a ∷ b) h e), (λ e. let same : f x ∷ map f xs ≡ Var (g y) ∷ vars (map g ys) = e in cc))

pub with_end : {A B : Type 0} (f : A → Exp) (g : B → Name) (x : Name) (v : Exp) (xs : List A) (ys : List B) → length xs ≡ 0 → ((length ys == 0) ≡ true) ↔ (map f xs ≡ vars_with x v (map g ys))
with_end f g z v [] [] h = ((λ e. refl), (λ e. refl))
with_end f g z v [] (y ∷ ys) h = (
  (λ e. let clash : suc (length ys) ≡ 0 = eqb-true (suc (length ys)) 0 e in absurd (omega arith)),
  (λ e. let same : [] ≡ vars_with z v (map g (y ∷ ys)) = e in cc),
)
with_end f g z v (x ∷ xs) ys h = absurd (omega arith)

pub with_on : {A B : Type 0} (f : A → Exp) (g : B → Name) (z : Name) (v : Exp) (x : A) (y : B) (xs : List A) (ys : List B) → f x ≡ cond (same_name z (g y)) v (Var (g y)) →
    (map f xs ≡ vars_with z v (map g ys)) ↔ (map f (x ∷ xs) ≡ vars_with z v (map g (y ∷ ys)))
with_on f g z v x y xs ys h = (
  (λ e. ap₂ (λ a b. a ∷ b) h e),
  (λ e. let same : f x ∷ map f xs ≡ cond (same_name z (g y)) v (Var (g y)) ∷ vars_with z v (map g ys) = e in cc),
)

pub starts_end : {A B : Type 0} (f : A → Start) (g : B → Name) (xs : List A) (ys : List B) → length xs ≡ 0 → ((length ys == 0) ≡ true) ↔ (map f xs ≡ as_starts (map g ys))
starts_end f g [] [] h = ((λ e. refl), (λ e. refl))
starts_end f g [] (y ∷ ys) h = (
  (λ e. let clash : suc (length ys) ≡ 0 = eqb-true (suc (length ys)) 0 e in absurd (omega arith)),
  (λ e. let same : [] ≡ as_starts (map g (y ∷ ys)) = e in cc),
)
starts_end f g (x ∷ xs) ys h = absurd (omega arith)

pub starts_on : {A B : Type 0} (f : A → Start) (g : B → Name) (x : A) (y : B) (xs : List A) (ys : List B) → f x ≡ record { name = g y; exp = Var (g y) } →
    (map f xs ≡ as_starts (map g ys)) ↔ (map f (x ∷ xs) ≡ as_starts (map g (y ∷ ys)))
starts_on f g x y xs ys h = (
  (λ e. ap₂ (λ a b. a ∷ b) h e),
  (λ e. let same : f x ∷ map f xs ≡ record { name = g y; exp = Var (g y) } ∷ as_starts (map g ys) = e in cc),
)
