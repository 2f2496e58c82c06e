-- What two lists show, of which the first is at its end, or both have a first.
use Rattle.std.proofs.Common.{◌≡◌, ◌↔◌, ◌==◌, true, suc, List, [], ◌∷◌, map, length, refl, ap₂, eqb-true, arith}

pub maps_end : {A B : Type 0} (f : A → B) (xs ys : List A) → length xs ≡ 0 → ((length ys == 0) ≡ true) ↔ (map f xs ≡ map f ys)
maps_end f [] [] h = ((λ e. refl), (λ e. refl))
maps_end f [] (y ∷ ys) h = (
  (λ e. let clash : suc (length ys) ≡ 0 = eqb-true (suc (length ys)) 0 e in absurd (omega arith)),
  (λ e. let same : [] ≡ map f (y ∷ ys) = e in cc),
)
maps_end f (x ∷ xs) ys h = absurd (omega arith)

pub maps_go_on : {A B : Type 0} (f : A → B) (x y : A) (xs ys : List A) → f x ≡ f y → (map f xs ≡ map f ys) ↔ (map f (x ∷ xs) ≡ map f (y ∷ ys))
maps_go_on f x y xs ys h = ((λ e. ap₂ (λ a b. a ∷ b) h e), (λ e. let same : f x ∷ map f xs ≡ f y ∷ map f ys = e in cc))
