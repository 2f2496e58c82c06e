-- A count that ends at the greatest word passes a smaller limit where the number does.
use Rattle.std.proofs.Common.{◌≡◌, ℕ, min, arith}
use Rattle.std.specs.Prelude.{nat_lt}
use Rattle.std.proofs.lemmas.Bool.Decides.{nat_tests}

pub beyond_limit : (n : ℕ) → nat_lt 800 (min n 18446744073709551615) ≡ nat_lt 800 n
beyond_limit n = grind (arith, nat_tests)
