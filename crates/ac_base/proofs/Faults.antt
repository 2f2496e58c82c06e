-- A count that rose in one call rose over a longer time, since no call lowers it.
use Rattle.std.proofs.Common.{ℕ, ◌≤◌, arith}
use Rattle.ac_base.specs.Count.{Rose}

pub Rose_within : (a b c d : ℕ) → a ≤ b → Rose b c → c ≤ d → Rose a d
Rose_within a b c d earlier rose later = grind arith
