-- The nearest keys of a map of numbers.
use Rattle.std.specs.Prelude.{◌≡◌, ℕ, ◌<◌, ◌≤◌, Some, IsSome}
use Rattle.std.specs.Ordering.{nat_cmp}
use Rattle.std.specs.BTreeMap.{BTreeMap, get}

-- the last key at or below a number has this value
pub record IsLastAt (places : BTreeMap ℕ ℕ) (number value : ℕ) : Type 0 where
  pub key : ℕ
  pub below : key ≤ number
  pub is : get nat_cmp places key ≡ Some value
  pub last : (k : ℕ) → k ≤ number → IsSome (get nat_cmp places k) → k ≤ key

-- the first key after a number has this value
pub record IsFirstAfter (places : BTreeMap ℕ ℕ) (number value : ℕ) : Type 0 where
  pub key : ℕ
  pub above : number < key
  pub is : get nat_cmp places key ≡ Some value
  pub first : (k : ℕ) → number < k → IsSome (get nat_cmp places k) → key ≤ k
