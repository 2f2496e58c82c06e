-- Lists of offsets that are cut at a length: what is cut before it is put together, and cut again, is as if it were cut once.
use Rattle.std.proofs.Common.{ℕ, ◌≡◌, ◌<◌, ◌≤◌, ◌++◌, List, [], ◌∷◌, zero, suc, take, refl, ap, arith}
use Rattle.std.specs.List.{slice_get}
use Rattle.c_lex.proofs.TokenSpelling.{take_within}
use Rattle.c_limits.specs.Limits.{leftmost}

pub take_append : (n i j : ℕ) (xs ys : List ℕ) → n ≤ i → n ≤ j → take n (take i xs ++ take j ys) ≡ take n (xs ++ ys)
take_append zero i j xs ys h k = refl
take_append (suc n) zero j xs ys h k = absurd (omega arith)
take_append (suc n) (suc i) j [] ys h k = take_within (suc n) j ys k
take_append (suc n) (suc i) j (x ∷ xs) ys h k = ap (λ l. x ∷ l) (take_append n i j xs ys (omega arith) (omega arith))

pub take_leftmost : (n i j : ℕ) (xs ys : List ℕ) → n ≤ i → n ≤ j → take n (leftmost (take i xs) (take j ys)) ≡ take n (leftmost xs ys)
take_leftmost zero i j xs ys h k = refl
take_leftmost (suc n) zero j xs ys h k = absurd (omega arith)
take_leftmost (suc n) (suc i) j [] ys h k = take_within (suc n) j ys k
take_leftmost (suc n) (suc i) zero (x ∷ xs) ys h k = absurd (omega arith)
take_leftmost (suc n) (suc i) (suc j) (x ∷ xs) [] h k = ap (λ l. x ∷ l) (take_append n i (suc j) xs [] (omega arith) (omega arith))
take_leftmost (suc n) (suc i) (suc j) (x ∷ xs) (y ∷ ys) h k = ap (λ l. x ∷ l) (take_leftmost n i j xs ys (omega arith) (omega arith))

pub get_take : (i n : ℕ) (xs : List ℕ) → i < n → slice_get (take n xs) i ≡ slice_get xs i
get_take i zero xs h = absurd (omega arith)
get_take i (suc n) [] h = refl
get_take zero (suc n) (x ∷ xs) h = refl
get_take (suc i) (suc n) (x ∷ xs) h = get_take i n xs (omega arith)
