-- Tags by their addresses.
use Rattle.std.specs.Prelude.{◌≡◌, ℕ, ◌+◌, ◌<◌, ◌≤◌, true, List, Some, is_some, slice_get, refl}
use Rattle.std.specs.Coded.{Coded, code_by, coded×, coded_ℕ, coded_list}
use Rattle.std.specs.Ordering.{nat_cmp}
use Rattle.std.specs.BTreeMap.{BTreeMap, get}
use Rattle.c_values.specs.Types.{CType}
use Rattle.c_values.specs.Layout.{Layout, size_of}
use Rattle.c_values.specs.CodeStored.{type_code}
use Rattle.c_memory.specs.Memory.{Tag}
use Rattle.c_memory.specs.Tags.{path_from}

abbrev pub tags_code : Coded (List Tag)
tags_code = coded_list (code_by (ℕ × CType) (coded× coded_ℕ type_code) (λ t. (t.address, t.type)) (λ p. record { address = p.0; type = p.1 }) (λ _. refl))

-- the map has the position of each tag at its address, and nothing else
pub record IsIndex (tags : List Tag) (places : BTreeMap ℕ ℕ) : Type 0 where
  pub each : (k : ℕ) (t : Tag) → slice_get tags k ≡ Some t → get nat_cmp places t.address ≡ Some k
  pub found : (a k : ℕ) → get nat_cmp places a ≡ Some k → (t : Tag) × (slice_get tags k ≡ Some t) × (t.address ≡ a)

-- the tag at this position is the last at or below an address
pub record IsLastTag (tags : List Tag) (a k : ℕ) : Type 0 where
  pub tag : Tag
  pub is : slice_get tags k ≡ Some tag
  pub below : tag.address ≤ a
  pub last : (j : ℕ) (t : Tag) → slice_get tags j ≡ Some t → t.address ≤ a → t.address ≤ tag.address

-- the tag at this position is the first after an address
pub record IsNextTag (tags : List Tag) (a k : ℕ) : Type 0 where
  pub tag : Tag
  pub is : slice_get tags k ≡ Some tag
  pub above : a < tag.address
  pub first : (j : ℕ) (t : Tag) → slice_get tags j ≡ Some t → a < t.address → tag.address ≤ t.address

-- the tag at this position covers a root
pub record Covers (l : Layout) (tags : List Tag) (type : CType) (a k : ℕ) : Type 0 where
  pub tag : Tag
  pub is : slice_get tags k ≡ Some tag
  pub path : is_some (path_from l tag type a) ≡ true

-- each tag at or below an address ends by it
pub record AllEndBy (l : Layout) (tags : List Tag) (a : ℕ) : Type 0 where
  pub all : (j : ℕ) (t : Tag) → slice_get tags j ≡ Some t → t.address ≤ a → t.address + size_of l t.type ≤ a

-- some tag at or below an address ends after it
pub record OneEndsAfter (l : Layout) (tags : List Tag) (a : ℕ) : Type 0 where
  pub position : ℕ
  pub tag : Tag
  pub is : slice_get tags position ≡ Some tag
  pub below : tag.address ≤ a
  pub over : a < tag.address + size_of l tag.type

-- each tag after an address begins at or after the end of so many bytes
pub record AllBeginAfter (tags : List Tag) (a bytes : ℕ) : Type 0 where
  pub all : (j : ℕ) (t : Tag) → slice_get tags j ≡ Some t → a < t.address → a + bytes ≤ t.address

pub record OneBeginsWithin (tags : List Tag) (a bytes : ℕ) : Type 0 where
  pub position : ℕ
  pub tag : Tag
  pub is : slice_get tags position ≡ Some tag
  pub above : a < tag.address
  pub within : tag.address < a + bytes
