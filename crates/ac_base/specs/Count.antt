-- Counts of faults, as a counter of 64 bits keeps them: it stands still at its last value.
use Rattle.std.specs.Prelude.{◌≡◌, ◌⊎◌, ℕ, ◌+◌, ◌-◌, ◌^◌, ◌<◌, min}

-- the last value of a counter
abbrev pub last_count : ℕ
last_count = 2 ^ 64 - 1

-- the counter's value after one more
abbrev pub one_more : ℕ → ℕ
one_more count = min (count + 1) last_count

-- the count rose, or it stands at the last value, where it can't rise
abbrev pub Rose : ℕ → ℕ → Type 0
Rose before after = (before < after) ⊎ ((before ≡ last_count) × (after ≡ last_count))
