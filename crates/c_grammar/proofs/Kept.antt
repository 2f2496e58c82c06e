-- The names of types, as the parser keeps them.
use Rattle.std.proofs.Common.{ℕ, ◌≡◌, ◌<◌, ◌+◌, ◌||◌, Bool, true, false, List, [], ◌∷◌, ◌++◌, ◌&&◌, cond, add-one, map, reverse, take, length, get_or, zero, suc, refl, sym, ap, ◌∙◌}
use Rattle.std.proofs.lemmas.List.{reverse-append, take-map}
use Rattle.std.proofs.Math.Seq.{take-suc}
use Rattle.std.proofs.lemmas.Bool.{eqb-true, eq-eqb}
use lib.Pointwise.{pointwise}
use Rattle.std.specs.Prelude.{nat_eq}
use Rattle.c_grammar.specs.Tree.{Name}
use Rattle.c_grammar.specs.CodeNames.{made_of, next_of}
use Rattle.c_grammar.specs.Operators.{is_made}

map_one : {X : Type 0} (f : X → Name) (xs : List X) (x : X) → map f (xs ++ x ∷ []) ≡ map f xs ++ f x ∷ []
map_one f [] x = refl
map_one f (y ∷ ys) x = ap (λ rest. f y ∷ rest) (map_one f ys x)

one_more : {X : Type 0} (f : X → Name) (all : List X) (k : ℕ) (x : X) → k < length all → x ≡ get_or all k x → take (suc k) (map f all) ≡ take k (map f all) ++ f x ∷ []
one_more f all k x h e =
    take-map f (suc k) all ∙ ap (map f) (take-suc all k x h) ∙ map_one f (take k all) (get_or all k x) ∙ ap (λ y. map f (take k all) ++ f y ∷ []) (sym e) ∙ ap (λ front. front ++ f x ∷ []) (sym (take-map f k all))

made_step : {X : Type 0} (f : X → Name) (all : List X) (k : ℕ) (x : X) → k < length all → x ≡ get_or all k x → made_of (map f all) (suc k) ≡ f x ∷ made_of (map f all) k
made_step f all k x h e = ap reverse (one_more f all k x h e) ∙ reverse-append (take k (map f all)) (f x ∷ [])

same_turned : (a b : ℕ) → nat_eq a b ≡ nat_eq b a
same_turned a b = turned (nat_eq a b) (nat_eq b a) refl refl
  where
    turned : (c d : Bool) → nat_eq a b ≡ c → nat_eq b a ≡ d → nat_eq a b ≡ nat_eq b a
    turned true true e f = e ∙ sym f
    turned false false e f = e ∙ sym f
    turned true false e f = let k = eqb-true a b e in sym (eq-eqb b a (sym k) ∙ sym e)
    turned false true e f = let k = eqb-true b a f in eq-eqb a b (sym k) ∙ sym f

turned : (xs ys : Name) → pointwise nat_eq xs ys ≡ pointwise nat_eq ys xs
turned [] [] = refl
turned [] (b ∷ ys) = refl
turned (a ∷ xs) [] = refl
turned (a ∷ xs) (b ∷ ys) = ap (λ c. c && pointwise nat_eq xs ys) (same_turned a b) ∙ ap (λ c. nat_eq b a && c) (turned xs ys)

either : (c d e f : Bool) → c ≡ d → e ≡ f → cond c true e ≡ (d || f)
either true d e f h k = rw (← h) refl
either false d e f h k = rw (← h) k

-- one more name is made
pub joined : {X : Type 0} (f : X → Name) (all : List X) (k : ℕ) (x : X) (n : Name) (had has : Bool) → k < length all → x ≡ get_or all k x → had ≡ is_made (made_of (map f all) k) n → has ≡ cond (pointwise nat_eq (f x) n) true had → has ≡ is_made (made_of (map f all) (k + 1)) n
joined f all k x n had has h e before after =
    after ∙ either (pointwise nat_eq (f x) n) (pointwise nat_eq n (f x)) had (is_made (made_of (map f all) k) n) (turned (f x) n) before ∙ sym (ap (λ names. is_made names n) (made_step f all k x h e)) ∙ ap (λ l. is_made (made_of (map f all) l) n) (sym (add-one k))

take_twice : {X : Type 0} (k : ℕ) (xs : List X) → take k (take k xs) ≡ take k xs
take_twice zero [] = refl
take_twice (suc k) [] = refl
take_twice zero (x ∷ xs) = refl
take_twice (suc k) (x ∷ xs) = ap (λ rest. x ∷ rest) (take_twice k xs)

pub kept_made : {X : Type 0} (f : X → Name) (all left : List X) (made : ℕ) → left ≡ take made all → made_of (map f left) made ≡ made_of (map f all) made
kept_made f all left made e = ap reverse (ap (λ xs. take made (map f xs)) e ∙ take-map f made (take made all) ∙ ap (map f) (take_twice made all) ∙ sym (take-map f made all))

pub kept_next : {X : Type 0} (f : X → Name) (all left : List X) (made : ℕ) → left ≡ take made all → next_of (map f left) ≡ made_of (map f all) made
kept_next f all left made e = ap reverse (ap (map f) e ∙ sym (take-map f made all))
