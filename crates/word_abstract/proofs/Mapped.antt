-- Lists that are made of others, and one more.
use Rattle.std.proofs.Common.{◌≡◌, List, [], ◌∷◌, ◌++◌, map, refl, ap}

pub mapped_push : {A B : Type 0} (f : A → B) (xs : List A) (x : A) (ys : List B) → map f (xs ++ x ∷ []) ++ ys ≡ map f xs ++ f x ∷ ys
mapped_push f [] x ys = refl
mapped_push f (a ∷ xs) x ys = ap (λ r. f a ∷ r) (mapped_push f xs x ys)

pub mapped_none : {A B : Type 0} (f : A → B) (xs : List A) → map f xs ++ [] ≡ map f xs
mapped_none f [] = refl
mapped_none f (x ∷ xs) = ap (λ r. f x ∷ r) (mapped_none f xs)
