-- Powers of 2 of which numbers of 128 bits fall short.
use Rattle.std.proofs.Common.{ℕ, ◌^◌, ◌≤◌}
use Rattle.std.proofs.Math.Pow.{pow_mono}

pub wide : (n : ℕ) → 128 ≤ n → 2 ^ 128 ≤ 2 ^ n
wide n h = pow_mono h

pub wider : (n : ℕ) → 129 ≤ n → 2 ^ 129 ≤ 2 ^ n
wider n h = pow_mono h
