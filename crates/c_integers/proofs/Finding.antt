-- What is found among values that are seen as others.
use Rattle.std.proofs.Common.{◌≡◌, Bool, true, false, cond, List, [], ◌∷◌, map, refl}
use Rattle.std.specs.Prelude.{Option, Some, find}
use Rattle.std.specs.Option.{option_map}

pub find_seen : {A B : Type 0} (f : A → B) (p : B → Bool) (xs : List A) → option_map f (find (λ x. p (f x)) xs) ≡ find p (map f xs)
find_seen f p [] = refl
find_seen {A = A} {B = B} f p (x ∷ xs) = by_cases (p (f x)) (find (λ y. p (f y)) xs) (find p (map f xs)) (find_seen f p xs)
  where
    by_cases : (b : Bool) (o : Option A) (r : Option B) → option_map f o ≡ r → option_map f (cond b (Some x) o) ≡ cond b (Some (f x)) r
    by_cases true o r h = refl
    by_cases false o r h = h
