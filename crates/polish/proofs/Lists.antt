-- Lists that are made of others, and one more.
use Rattle.std.proofs.Common.{◌≡◌, List, [], ◌∷◌, ◌++◌, map, refl, ap}

pub mapped_push : {A B : Type 0} (f : A → B) (xs : List A) (x : A) (ys : List B) → map f (xs ++ x ∷ []) ++ ys ≡ map f xs ++ f x ∷ ys
mapped_push f [] x ys = refl
mapped_push f (a ∷ xs) x ys = ap (λ r. f a ∷ r) (mapped_push f xs x ys)
