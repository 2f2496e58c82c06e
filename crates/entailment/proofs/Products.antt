-- Products of integers: with sums, with products, and with what is at most 0.
use Rattle.std.proofs.Common.{◌≡◌, ◌*◌, ◌≤◌, ℤ, pos, negsuc, neg_ℤ, ◌+ℤ◌, ◌*ℤ◌, ◌≤ℤ◌, ap, ap₂, ◌∙◌, arith}
use Rattle.std.proofs.lemmas.Int.{ints}
use Rattle.std.proofs.Math.IntN.{*ℤ_comm}
use Rattle.std.proofs.Math.Nat.{mul-le-mul_left}
use borrow.Author.Differences.{up, down, sum_is_lem, product_is, neg_is, same_in}

pub product-sum : (a b c : ℤ) → (a +ℤ b) *ℤ c ≡ a *ℤ c +ℤ b *ℤ c
product-sum a b c =
    let sum = sum_is_lem a b in
    let above = ap (λ x. x * up c) sum in
    let below = ap (λ x. x * down c) sum in
    omega (arith, same_in, sum_is_lem, product_is)

pub product_of-sum : (a b c : ℤ) → a *ℤ (b +ℤ c) ≡ a *ℤ b +ℤ a *ℤ c
product_of-sum a b c = *ℤ_comm a (b +ℤ c) ∙ product-sum b c a ∙ ap₂ (λ x y. x +ℤ y) (*ℤ_comm b a) (*ℤ_comm c a)

pub product-product : (a b c : ℤ) → (a *ℤ b) *ℤ c ≡ a *ℤ (b *ℤ c)
product-product a b c =
    let left = product_is a b in
    let right = product_is b c in
    let above = ap (λ x. x * up c) left.0 in
    let below = ap (λ x. x * down c) left.0 in
    let over = ap (λ x. x * up c) left.1 in
    let under = ap (λ x. x * down c) left.1 in
    let more = ap (λ x. up a * x) right.0 in
    let less = ap (λ x. down a * x) right.0 in
    let higher = ap (λ x. up a * x) right.1 in
    let lower = ap (λ x. down a * x) right.1 in
    omega (arith, same_in, product_is)

pub product-neg : (a b : ℤ) → neg_ℤ a *ℤ b ≡ neg_ℤ (a *ℤ b)
product-neg a b =
    let n = neg_is a in
    let above = ap (λ x. x * up b) n.0 in
    let below = ap (λ x. x * down b) n.0 in
    let over = ap (λ x. x * up b) n.1 in
    let under = ap (λ x. x * down b) n.1 in
    omega (arith, same_in, neg_is, product_is)

pub product_at_most : (a b : ℤ) → (pos 0 ≤ℤ a) → (b ≤ℤ pos 0) → (a *ℤ b) ≤ℤ pos 0
product_at_most (pos n) b p q =
    let h : up b ≤ down b = omega (arith, ints) in
    let times : n * up b ≤ n * down b = mul-le-mul_left n h in
    omega (arith, ints)
product_at_most (negsuc n) b p q = absurd (omega (arith, ints))
