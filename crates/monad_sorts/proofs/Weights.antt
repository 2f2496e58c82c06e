-- Weights that fall where a size does, or where it stays and a rank does.
use Rattle.std.proofs.Common.{ℕ, ◌+◌, ◌*◌, ◌^◌, ◌<◌, ◌≤◌, Fits, w64, arith}

-- above any number of steps
abbrev pub top : ℕ
top = 2 ^ 64 + 1

pub weight : ℕ → ℕ → ℕ
weight size rank = (top + 1) * size + rank

pub rank_falls : (size a b : ℕ) → a < b → weight size a < weight size b
unfolding weight
rank_falls size a b h = omega arith

pub size_falls : (s r a b : ℕ) → s < r → a ≤ top → weight s a < weight r b
unfolding weight
size_falls s r a b h k = omega arith

-- a size that doesn't grow, and a rank that falls
pub weight_falls : (s r a b : ℕ) → s ≤ r → a < b → weight s a < weight r b
unfolding weight
weight_falls s r a b h k = omega arith

pub below_top : (k : ℕ) → Fits w64 k → k + 1 < top
below_top k h = omega arith
