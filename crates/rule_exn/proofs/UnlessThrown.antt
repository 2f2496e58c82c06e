-- What two lists of conditions show, of which the first is at its end, or both have a first.
use Rattle.std.proofs.Common.{◌≡◌, ◌↔◌, ◌==◌, true, suc, List, [], ◌∷◌, length, refl, ap₂, eqb-true, arith}
use Rattle.std.specs.Prelude.{map}
use Rattle.simpl_lang.specs.Command.{Condition}
use Rattle.rule_exn.specs.Table.{asked_unless_thrown, unless_thrown}

pub asked_end : {A : Type 0} (f : A → Condition) (xs ys : List A) → length xs ≡ 0 → ((length ys == 0) ≡ true) ↔ (map f xs ≡ unless_thrown (map f ys))
asked_end f [] [] h = ((λ e. refl), (λ e. refl))
asked_end f [] (y ∷ ys) h = (
  (λ e. let clash : suc (length ys) ≡ 0 = eqb-true (suc (length ys)) 0 e in absurd (omega arith)),
  (λ e. let same : [] ≡ unless_thrown (map f (y ∷ ys)) = e in cc),
)
asked_end f (x ∷ xs) ys h = absurd (omega arith)

pub asked_on : {A : Type 0} (f : A → Condition) (x y : A) (xs ys : List A) → f x ≡ asked_unless_thrown (f y) → (map f xs ≡ unless_thrown (map f ys)) ↔ (map f (x ∷ xs) ≡ unless_thrown (map f (y ∷ ys)))
asked_on f x y xs ys h = ((λ e. ap₂ (λ a b. a ∷ b) h e), (λ e. let same : f x ∷ map f xs ≡ asked_unless_thrown (f y) ∷ unless_thrown (map f ys) = e in cc))
