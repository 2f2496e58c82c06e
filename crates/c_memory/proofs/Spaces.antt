-- The space is made of whole pages.
use Rattle.std.proofs.Common.{ℕ, ◌+◌, ◌%◌, ◌^◌, ◌<◌, ◌≤◌, arith}
use Rattle.c_values.specs.Types.{Target, Ilp32, Lp64, address_width}

-- what is in one page is in the space
pub in_page_fits : (t : Target) (a n : ℕ) → a < 2 ^ address_width t → a % 256 + n ≤ 256 → a + n ≤ 2 ^ address_width t
in_page_fits Ilp32 a n lt h = omega arith
in_page_fits Lp64 a n lt h = omega arith
