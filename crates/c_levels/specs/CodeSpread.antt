-- Marks that spread: the least set of positions with those that are marked, and with each that is led to from one in it.
use Rattle.std.specs.Prelude.{◌≡◌, slice_index_or, ℕ, ◌+◌, ◌<◌, Bool, true, false, not, ◌&&◌, nat_lt, List, [], ◌∷◌, ◌++◌, length, Option, Some, None, ◌⊎◌, slice_set, if◌then◌else◌}
use Rattle.std.specs.Global.{Vec}
use Rattle.c_values.specs.Name.{Name}

abbrev pub Among : ℕ → List ℕ → Type 0
Among i [] = ⊥
Among i (x ∷ xs) = (i ≡ x) ⊎ Among i xs

abbrev pub IsMarked : List Bool → ℕ → Type 0
IsMarked ms k = slice_index_or ms k false ≡ true

-- from each position that is reached those that it leads to are, as far as there are marks
pub data Reached (leads : ℕ → List ℕ) (start : List Bool) : ℕ → Type 0 where
  at_start : {k : ℕ} → IsMarked start k → Reached leads start k
  led_to : {k i : ℕ} → Reached leads start k → Among i (leads k) → i < length start → Reached leads start i

-- marks, and the marked positions from which nothing was marked yet
pub record Marking : Type 0 where
  pub marks : List Bool
  pub work : List ℕ

abbrev pub is_unmarked : List Bool → ℕ → Bool
is_unmarked ms i = nat_lt i (length ms) && not (slice_index_or ms i true)

abbrev pub marked : ℕ → Marking → Marking
marked i s = if is_unmarked s.marks i then record { marks = slice_set s.marks i true; work = s.work ++ (i ∷ []) } else s

abbrev pub all_marked : List ℕ → Marking → Marking
all_marked [] s = s
all_marked (i ∷ is) s = all_marked is (marked i s)

-- these are reached, and no others
pub record IsSpread (leads : ℕ → List ℕ) (start end : List Bool) : Type 0 where
  pub count : length end ≡ length start
  pub reached : (k : ℕ) → IsMarked end k → Reached leads start k
  pub all : (k : ℕ) → Reached leads start k → IsMarked end k

-- the positions of the marks, the first of which has a position
abbrev pub positions_from : ℕ → List Bool → List ℕ
positions_from k [] = []
positions_from k (true ∷ ms) = k ∷ positions_from (k + 1) ms
positions_from k (false ∷ ms) = positions_from (k + 1) ms

-- where a name leads to, by a table
abbrev pub listed : Option (Vec ℕ) → List ℕ
listed None = []
listed (Some v) = v.items

abbrev pub leads_by : List Name → (Name → List ℕ) → ℕ → List ℕ
leads_by names table k = if nat_lt k (length names) then table (slice_index_or names k []) else []
