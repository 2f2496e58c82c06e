-- Names with their scalars, one after the other.
use Rattle.std.proofs.Common.{◌≡◌, cond, List, [], ◌∷◌, ◌++◌, map, Option, Some, refl}
use Rattle.c_values.specs.Name.{Name, same_name, with_name}
use Rattle.expression_lang.specs.Sort.{Scalar}
use Rattle.expression_lang.specs.Sorted.{names_with}

-- names, one after the other
pub names_also : {A : Type 0} (n : A → Name) (s : A → Scalar) (xs ys : List A) (others : Name → Option Scalar) →
    names_with (map n (xs ++ ys)) (map s (xs ++ ys)) others ≡ names_with (map n ys) (map s ys) (names_with (map n xs) (map s xs) others)
names_also n s [] ys others = refl
names_also n s (x ∷ xs) ys others = names_also n s xs ys (with_name (n x) (Some (s x)) others)

pub names_push : {A : Type 0} (n : A → Name) (s : A → Scalar) (xs : List A) (x : A) (others : Name → Option Scalar) →
    names_with (map n (xs ++ x ∷ [])) (map s (xs ++ x ∷ [])) others ≡ with_name (n x) (Some (s x)) (names_with (map n xs) (map s xs) others)
names_push n s xs x others = names_also n s xs (x ∷ []) others

-- of names with their scalars, the last counts
pub last_bound : {A : Type 0} (n : A → Name) (s : A → Scalar) (xs : List A) (x : A) (others : Name → Option Scalar) (y : Name) →
    names_with (map n (xs ++ x ∷ [])) (map s (xs ++ x ∷ [])) others y ≡ cond (same_name (n x) y) (Some (s x)) (names_with (map n xs) (map s xs) others y)
last_bound n s [] x others y = refl
last_bound n s (a ∷ xs) x others y = last_bound n s xs x (with_name (n a) (Some (s a)) others) y
