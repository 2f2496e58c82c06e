-- What is left of a list that was gone through from the front, and one more of it.
use Rattle.std.proofs.Common.{◌≡◌, ◌+◌, ◌-◌, ◌≤◌, List, [], ◌∷◌, ◌++◌, length, take, refl, sym, ap, ◌∙◌, arith, length-append}
use Rattle.polish.specs.Passing.{IsLeft}

module _ {A : Type 0} where
  take_front : (xs ys : List A) → take (length xs) (xs ++ ys) ≡ xs
  take_front [] ys = refl
  take_front (x ∷ xs) ys = ap (λ r. x ∷ r) (take_front xs ys)

  front_taken : (all front rest : List A) → all ≡ front ++ rest → take (length all - length rest) all ≡ front
  front_taken all front rest e =
      ap (λ n. take n all) (omega (arith, ap length e, length-append front rest))
      ∙ ap (λ xs. take (length front) xs) e ∙ take_front front rest

  one_on : (xs : List A) (x : A) (ys : List A) → xs ++ x ∷ ys ≡ (xs ++ x ∷ []) ++ ys
  one_on [] x ys = refl
  one_on (y ∷ xs) x ys = ap (λ r. y ∷ r) (one_on xs x ys)

  pub all_left : (all : List A) → IsLeft all all
  all_left all = ap (λ xs. xs ++ all) (front_taken all [] all refl)

  pub fewer_left : (all rest : List A) → IsLeft all rest → length rest ≤ length all
  fewer_left all rest h = omega (arith, ap length h, length-append (take (length all - length rest) all) rest)

  module _ (all rest : List A) (x : A) (after : List A) (h : IsLeft all rest) (e : rest ≡ x ∷ after) where
    is_all : all ≡ (take (length all - length rest) all ++ x ∷ []) ++ after
    is_all =
        sym h ∙ ap (λ r. take (length all - length rest) all ++ r) e ∙ one_on (take (length all - length rest) all) x after

    pub one_more_taken : take (length all - length after) all ≡ take (length all - length rest) all ++ x ∷ []
    one_more_taken = front_taken all (take (length all - length rest) all ++ x ∷ []) after is_all

    pub one_less_left : IsLeft all after
    one_less_left = ap (λ xs. xs ++ after) one_more_taken ∙ sym is_all

    pub one_further : length all - length after ≡ length all - length rest + 1
    one_further = omega (arith, ap length e, fewer_left all rest h)
