-- What lies at a place of a list, and names apart from those of a list.
use Rattle.std.proofs.Common.{◌≡◌, Bool, true, false, ◌||◌, sym, List, [], ◌∷◌, subst, ℕ, zero, suc, ◌<◌, length, arith, get_or, Some, ap, ◌++◌, map, ◌∙◌, append_assoc, ◌^◌}
use Rattle.std.proofs.lemmas.Bool.{false≢true, or_parts}
use Rattle.std.specs.Prelude.{slice_get}
use Rattle.std.specs.Option.{IsSomeAnd}
use Rattle.std.proofs.lemmas.List.{map-append}
use Rattle.c_values.specs.Name.{Name, same_name, is_among}
use Rattle.c_values.proofs.Laid.{name_is}
use Rattle.c_values.specs.Path.{IsBits}
use Rattle.c_values.specs.Value.{Value, Bits, word_in}
use Rattle.global_changes.proofs.Changed.{by_test}

pub or_second : (a b : Bool) → a ≡ false → (a || b) ≡ true → b ≡ true
or_second true b h k = absurd (false≢true (sym h))
or_second false b h k = k

pub apart : (x y : Name) (ys : List Name) → is_among x ys ≡ false → is_among y ys ≡ true → same_name x y ≡ false
apart x y [] h k = absurd (false≢true k)
apart x y (z ∷ ys) h k =
    let p = or_parts (same_name x z) (is_among x ys) h in
    by_test (same_name y z)
    (λ b. subst (λ n. same_name x n ≡ false) (sym (name_is y z b)) p.0)
    (λ b. apart x y ys p.1 (or_second (same_name y z) (is_among y ys) b k))

pub some_below : {X : Type 0} (P : X → Type 0) (xs : List X) (k : ℕ) → IsSomeAnd (slice_get xs k) P → k < length xs
some_below P [] k h = absurd h
some_below P (x ∷ xs) zero h = omega arith
some_below P (x ∷ xs) (suc k) h = let less = some_below P xs k h in omega (arith, less)

pub get_some : {X : Type 0} (xs : List X) (k : ℕ) (x : X) → k < length xs → x ≡ get_or xs k x → slice_get xs k ≡ Some x
get_some [] k x lt e = absurd (omega arith)
get_some (y ∷ xs) zero x lt e = ap Some (sym e)
get_some (y ∷ xs) (suc k) x lt e = get_some xs k x (omega arith) e

pub one_more : {A B : Type 0} (f : A → B) (xs ys : List A) (x : A) (b : B) (rest all : List B) → ys ≡ xs ++ (x ∷ []) → f x ≡ b → map f xs ++ (b ∷ rest) ≡ all → map f ys ++ rest ≡ all
one_more f xs ys x b rest all grown same h =
    ap (λ zs. map f zs ++ rest) grown ∙ ap (λ zs. zs ++ rest) (map-append f xs (x ∷ [])) ∙ append_assoc (map f xs) (f x ∷ []) rest
    ∙ ap (λ c. map f xs ++ (c ∷ rest)) same ∙ h

pub bits_below : (n : ℕ) (v : Value) → IsBits n v → (word_in v).bits < 2 ^ n
bits_below n (Bits w) h = h.fits
bits_below _ _ h = absurd h
