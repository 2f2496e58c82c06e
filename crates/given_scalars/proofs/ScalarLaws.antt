-- Scalars one after the other, and of what calls give.
use Rattle.std.proofs.Common.{◌≡◌, List, [], ◌∷◌, ◌++◌, map, Option, Some, None, refl, sym, ap, ◌∙◌}
use Rattle.expression_lang.specs.Sort.{Scalar}
use Rattle.expression_lang.specs.Sorted.{with_scalar}
use Rattle.given_scalars.specs.CodeScalars.{scalars_before}

append_one : (xs : List Scalar) (x : Scalar) (ys : List Scalar) → (xs ++ x ∷ []) ++ ys ≡ xs ++ x ∷ ys
append_one [] x ys = refl
append_one (y ∷ xs) x ys = ap (λ r. y ∷ r) (append_one xs x ys)

append_none : (xs : List Scalar) → xs ++ [] ≡ xs
append_none [] = refl
append_none (x ∷ xs) = ap (λ r. x ∷ r) (append_none xs)

before_push : (xs : List Scalar) (s : Scalar) (o : Option (List Scalar)) → scalars_before (xs ++ s ∷ []) o ≡ scalars_before xs (with_scalar (Some s) o)
before_push xs s None = refl
before_push xs s (Some ys) = ap Some (append_one xs s ys)

map_push : {A : Type 0} (f : A → Scalar) (xs : List A) (x : A) → map f (xs ++ x ∷ []) ≡ map f xs ++ f x ∷ []
map_push f [] x = refl
map_push f (y ∷ ys) x = ap (λ r. f y ∷ r) (map_push f ys x)

pub one_more : {A : Type 0} (f : A → Scalar) (xs : List A) (x : A) (found : Option Scalar) (o whole : Option (List Scalar)) → Some (f x) ≡ found →
    scalars_before (map f xs) (with_scalar found o) ≡ whole → scalars_before (map f (xs ++ x ∷ [])) o ≡ whole
one_more f xs x found o whole q h = ap (λ r. scalars_before r o) (map_push f xs x) ∙ before_push (map f xs) (f x) o ∙ ap (λ s. scalars_before (map f xs) (with_scalar s o)) q ∙ h

pub none_there : (xs : List Scalar) (found : Option Scalar) (o whole : Option (List Scalar)) → None ≡ found → scalars_before xs (with_scalar found o) ≡ whole → None ≡ whole
none_there xs found o whole q h = ap (λ s. scalars_before xs (with_scalar s o)) q ∙ h

pub all_listed : (xs : List Scalar) (whole : Option (List Scalar)) → scalars_before xs (Some []) ≡ whole → Some xs ≡ whole
all_listed xs whole h = sym (ap Some (append_none xs)) ∙ h
