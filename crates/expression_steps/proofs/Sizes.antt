-- The larger of two sizes, and the largest of three.
use Rattle.std.proofs.Common.{ℕ, ◌+◌, ◌-◌, ◌*◌, ◌<◌, ◌≤◌, max, arith}
use Rattle.std.proofs.Math.Nat.{le-max_left, le-max_right, max-le}

pub two_smaller : (a b n : ℕ) → a < n → b < n → 3 * max a b + 3 < 3 * n + 1
two_smaller a b n h i =
    let k : max a b ≤ n - 1 = max-le (omega arith) (omega arith) in omega (arith, h, k)

pub three_smaller : (a b c n : ℕ) → a < n → b < n → c < n → 3 * max a (max b c) + 3 < 3 * n + 1
three_smaller a b c n h i j =
    let k : max b c ≤ n - 1 = max-le (omega arith) (omega arith) in
    let l : max a (max b c) ≤ n - 1 = max-le (omega arith) k in omega (arith, h, l)

pub first_within : (a b : ℕ) → 3 * a + 1 < 3 * max a b + 3
first_within a b = omega (arith, le-max_left a b)

pub second_within : (a b : ℕ) → 3 * b + 1 < 3 * max a b + 3
second_within a b = omega (arith, le-max_right a b)

pub right_within : (a b : ℕ) → 3 * b + 2 < 3 * max a b + 3
right_within a b = omega (arith, le-max_right a b)

pub second_of_three : (a b c : ℕ) → 3 * b + 1 < 3 * max a (max b c) + 3
second_of_three a b c = omega (arith, le-max_left b c, le-max_right a (max b c))

pub third_of_three : (a b c : ℕ) → 3 * c + 1 < 3 * max a (max b c) + 3
third_of_three a b c = omega (arith, le-max_right b c, le-max_right a (max b c))
