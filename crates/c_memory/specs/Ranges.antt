-- Bytes that are given in ranges: an address and the bytes from it on. An absent byte is 0.
use Rattle.std.specs.Prelude.{ℕ, ◌+◌, ◌-◌, ◌≤◌, nat_le, nat_lt, ◌&&◌, List, [], ◌∷◌, length, slice_index, Vec, if◌then◌else◌}
use Rattle.std.specs.declared.alloc.Global.{Global}

pub record Run : Type 0 where
  pub address : ℕ
  pub bytes : List ℕ

abbrev pub run_of : (ℕ × Vec ℕ Global) → Run
run_of r = record { address = r.0; bytes = r.1.items }

-- in order and apart, from an address on, and ending by another
abbrev pub AreRuns : ℕ → ℕ → List Run → Type 0
AreRuns from to [] = from ≤ to
AreRuns from to (r ∷ rs) = (from ≤ r.address) × AreRuns (r.address + length r.bytes) to rs

abbrev pub run_byte : List Run → ℕ → ℕ
run_byte [] x = 0
run_byte (r ∷ rs) x =
    if nat_le r.address x && nat_lt x (r.address + length r.bytes) then slice_index r.bytes (x - r.address) else run_byte rs x
