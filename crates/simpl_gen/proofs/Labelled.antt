-- One label more before others.
use Rattle.std.proofs.Common.{◌≡◌, ℕ, zero, suc, ◌+◌, ◌<◌, List, [], ◌∷◌, length, get_or, drop, ℤ, sym, ap, ◌∙◌, arith}
use Rattle.c_values.specs.Types.{Target, IntType}
use Rattle.expression_lang.specs.Expression.{Or, Eq, Var}
use Rattle.generation.specs.Guards.{word_of}
use Rattle.generation.specs.Generate.{is_one_of, switch_local}

pub one_label_more : (t : Target) (i : IntType) (n : ℕ) (ks : List ℤ) (j : ℕ) (k : ℤ) → j + 1 < length ks → k ≡ get_or ks j k →
    is_one_of t i n (drop j ks) ≡ Or (Eq (Var (switch_local n)) (word_of t i k)) (is_one_of t i n (drop (j + 1) ks))
one_label_more t i n [] j k lt e = absurd (omega arith)
one_label_more t i n (x ∷ []) zero k lt e = absurd (omega arith)
one_label_more t i n (x ∷ y ∷ ks) zero k lt e = ap (λ z. Or (Eq (Var (switch_local n)) (word_of t i z)) (is_one_of t i n (y ∷ ks))) (sym e)
one_label_more t i n (x ∷ ks) (suc j) k lt e =
    let s : suc j + 1 ≡ suc (j + 1) = omega arith in
    one_label_more t i n ks j k (omega arith) e ∙ ap (λ m. Or (Eq (Var (switch_local n)) (word_of t i k)) (is_one_of t i n (drop m (x ∷ ks)))) (sym s)

pub last_label : (t : Target) (i : IntType) (n : ℕ) (ks : List ℤ) (j : ℕ) (k : ℤ) → j + 1 ≡ length ks → k ≡ get_or ks j k →
    is_one_of t i n (drop j ks) ≡ Eq (Var (switch_local n)) (word_of t i k)
last_label t i n [] j k lt e = absurd (omega arith)
last_label t i n (x ∷ []) zero k lt e = ap (λ z. Eq (Var (switch_local n)) (word_of t i z)) (sym e)
last_label t i n (x ∷ y ∷ ks) zero k lt e = absurd (omega arith)
last_label t i n (x ∷ ks) (suc j) k lt e = last_label t i n ks j k (omega arith) e
