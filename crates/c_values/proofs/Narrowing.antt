-- How an array type is narrowed to its element.
use Rattle.std.proofs.Common.{◌≡◌, ℕ, zero, suc, ◌*◌, ◌<◌, ◌≤◌, ◌⊎◌, inl, inr, min, Bool, true, false, ◌&&◌, ltb, refl, sym, ap, ◌∙◌, arith}
use Rattle.std.proofs.Math.Nat.{min-eq_left, min-eq_right, mul_assoc}
use Rattle.std.proofs.lemmas.Bool.{cases_lt}
use Rattle.c_values.specs.Layout.{Shape, Row, size, alignment, is_complete}

-- a product of a number that stopped growing
pub min-mul : (x z m : ℕ) → min (min x m * z) m ≡ min (x * z) m
min-mul x z m = by_cases (cases_lt m x)
  where
    by_factor : (z : ℕ) → m < x → min (m * z) m ≡ min (x * z) m
    by_factor zero h = ap (λ n. min n m) (omega arith)
    by_factor (suc z) h =
        let below : m ≤ m * suc z = grind arith in
        let above : m ≤ x * suc z = grind arith in
        min-eq_right below ∙ sym (min-eq_right above)

    by_cases : (m < x) ⊎ (x ≤ m) → min (min x m * z) m ≡ min (x * z) m
    by_cases (inl c) = ap (λ n. min (n * z) m) (min-eq_right (omega arith)) ∙ by_factor z c
    by_cases (inr c) = ap (λ n. min (n * z) m) (min-eq_left c)

-- so many of a shape take what the whole takes
pub record Narrows (some : Bool) (count : ℕ) (s whole : Shape) : Type 0 where
  pub complete : (some && is_complete s) ≡ is_complete whole
  pub size : min (count * size s) 65537 ≡ min (size whole) 65537
  pub alignment : alignment s ≡ alignment whole

more_complete : (some n' c : Bool) → ((some && n') && c) ≡ (some && (n' && c))
more_complete true n' c = refl
more_complete false n' c = refl

pub narrows_element : (some : Bool) (count n : ℕ) (e whole : Shape) → Narrows some count (Row e n) whole → Narrows (some && ltb 0 n) (min (count * n) 65537) e whole
narrows_element some count n e whole h = record {
  complete = more_complete some (ltb 0 n) (is_complete e) ∙ h.complete;
  size = min-mul (count * n) (size e) 65537 ∙ ap (λ k. min k 65537) (mul_assoc count n (size e)) ∙ h.size;
  alignment = h.alignment;
}
