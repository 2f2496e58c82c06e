-- Addresses modulo the space: bytes of one object are at different addresses.
use Rattle.std.proofs.Common.{◌≡◌, ℕ, suc, ◌+◌, ◌-◌, ◌*◌, ◌/◌, ◌%◌, ◌<◌, ◌≤◌, ◌⊎◌, inl, inr, ap, ◌∙◌, mul-le-mul_left, mod-eq_of_lt, arith}
use Rattle.std.proofs.Math.Nat.{div-add-mod}
use Rattle.std.proofs.lemmas.Bool.{cases_order}

quotient_grows : (s x e q r : ℕ) → s * q + r ≡ x → (q' : ℕ) → s * q' + r ≡ x + e → 0 < e → e < s → ⊥
quotient_grows s x e q r h q' h' some less = by_cases (cases_order q q')
  where
    by_cases : (q ≡ q') ⊎ ((q < q') ⊎ (q' < q)) → ⊥
    by_cases (inl c) = let k : s * q ≡ s * q' = ap (λ z. s * z) c in omega arith
    by_cases (inr (inl c)) = let k : s * suc q ≤ s * q' = mul-le-mul_left s c in omega arith
    by_cases (inr (inr c)) = let k : s * suc q' ≤ s * q = mul-le-mul_left s c in omega arith

-- less than the space apart, so not one address
pub later_address : (space x e : ℕ) → 0 < e → e < space → x % space ≡ (x + e) % space → ⊥
later_address space x e some less h =
    quotient_grows space x e (x / space) (x % space) (div-add-mod x space) ((x + e) / space)
    (ap (λ r. space * ((x + e) / space) + r) h ∙ div-add-mod (x + e) space) some less

pub apart_addresses : (space a i j : ℕ) → i < j → j < space → (a + i) % space ≡ (a + j) % space → ⊥
apart_addresses space a i j lt less h =
    let e : a + j ≡ (a + i) + (j - i) = omega arith in
    later_address space (a + i) (j - i) (omega arith) (omega arith) (h ∙ ap (λ x. x % space) e)

-- addresses in the space
pub apart_plain : (space x y : ℕ) → x < y → y < space → x % space ≡ y % space → ⊥
apart_plain space x y lt less h =
    let left : x % space ≡ x = mod-eq_of_lt (omega arith) in
    let right : y % space ≡ y = mod-eq_of_lt less in
    omega arith
