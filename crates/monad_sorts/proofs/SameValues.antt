-- Values that are compared position by position.
use Rattle.std.proofs.Common.{◌≡◌, ℕ, zero, suc, ◌==◌, ◌+◌, ◌<◌, Bool, true, false, ◌&&◌, List, [], ◌∷◌, length, drop, Option, refl, sym, ap, ◌∙◌, arith}
use Rattle.std.proofs.lemmas.Bool.{eqb-true, false_from_ne_true}
use Rattle.expression_lang.specs.Sort.{Scalar}
use Rattle.monad_sorts.specs.CodeTold.{told_at}
use Rattle.monad_sorts.specs.CodeSorted.{is_same, same_told}

-- one more pair is the same
pub same_more : (os ps : List (Option Scalar)) (k : ℕ) → k < length os → length os ≡ length ps →
    is_same (told_at os k) (told_at ps k) ≡ true →
    same_told (drop (k + 1) os) (drop (k + 1) ps) ≡ same_told (drop k os) (drop k ps)
same_more [] ps k lt e h = absurd (omega arith)
same_more (o ∷ os) [] k lt e h = absurd cc
same_more (o ∷ os) (p ∷ ps) zero lt e h = ap (λ b. b && same_told os ps) (sym h)
same_more (o ∷ os) (p ∷ ps) (suc k) lt e h =
    let n : suc k + 1 ≡ suc (k + 1) = omega arith in
    ap (λ j. same_told (drop j (o ∷ os)) (drop j (p ∷ ps))) n ∙ same_more os ps k (omega arith) (omega arith) h

-- or it isn't
pub differ_here : (os ps : List (Option Scalar)) (k : ℕ) → k < length os → length os ≡ length ps →
    is_same (told_at os k) (told_at ps k) ≡ false →
    same_told (drop k os) (drop k ps) ≡ false
differ_here [] ps k lt e h = absurd (omega arith)
differ_here (o ∷ os) [] k lt e h = absurd cc
differ_here (o ∷ os) (p ∷ ps) zero lt e h = ap (λ b. b && same_told os ps) h
differ_here (o ∷ os) (p ∷ ps) (suc k) lt e h = differ_here os ps k (omega arith) (omega arith) h

pub all_same : (os ps : List (Option Scalar)) (k : ℕ) → k ≡ length os → length os ≡ length ps →
    same_told (drop k os) (drop k ps) ≡ true
all_same [] [] zero h e = refl
all_same [] [] (suc k) h e = absurd (omega arith)
all_same [] (p ∷ ps) k h e = absurd (omega arith)
all_same (o ∷ os) [] k h e = absurd (omega arith)
all_same (o ∷ os) (p ∷ ps) zero h e = absurd (omega arith)
all_same (o ∷ os) (p ∷ ps) (suc k) h e = all_same os ps k (omega arith) (omega arith)

-- values of other numbers
pub other_number : (os ps : List (Option Scalar)) → (length os ≡ length ps → ⊥) → same_told os ps ≡ false
other_number [] [] h = absurd (h refl)
other_number [] (p ∷ ps) h = refl
other_number (o ∷ os) [] h = refl
other_number (o ∷ os) (p ∷ ps) h = ap (λ b. is_same o p && b) (other_number os ps (λ e. h (ap suc e))) ∙ and_false (is_same o p)
  where
    and_false : (b : Bool) → (b && false) ≡ false
    and_false true = refl
    and_false false = refl

-- one value, and none
pub one_same : (o : Option Scalar) (ps : List (Option Scalar)) → length ps ≡ 1 → same_told (o ∷ []) ps ≡ is_same o (told_at ps 0)
one_same o [] h = absurd (omega arith)
one_same o (p ∷ []) h = and_true (is_same o p)
  where
    and_true : (b : Bool) → (b && true) ≡ b
    and_true true = refl
    and_true false = refl
one_same o (p ∷ q ∷ ps) h = absurd (omega arith)

pub none_is : (ps : List (Option Scalar)) (k : ℕ) → k ≡ length ps → (k == 0) ≡ same_told [] ps
none_is [] k h = ap (λ j. j == 0) h
none_is (p ∷ ps) zero h = absurd (omega arith)
none_is (p ∷ ps) (suc k) h = false_from_ne_true (suc k == 0) (λ e. let clash : suc k ≡ 0 = eqb-true (suc k) 0 e in omega arith)
