-- Bytes that are kept in pages of 256. A page that isn't there is all zeros.
use Rattle.std.specs.Prelude.{◌≡◌, ℕ, ◌+◌, ◌/◌, ◌%◌, ◌<◌, ◌≤◌, List, Option, Some, None, IsSome, nat_eq, slice_index}
use Rattle.std.specs.declared.hash.FoldHasher.{FoldHasher}
use Rattle.std.specs.declared.hash.BuildHasherDefault.{BuildHasherDefault}
use Rattle.std.specs.HashMap.{HashMap, get}

-- the pages by their numbers
abbrev pub Pages : Type 0
Pages = HashMap ℕ (List ℕ) (BuildHasherDefault FoldHasher)

abbrev pub page_size : ℕ
page_size = 256

abbrev pub page_byte : Option (List ℕ) → ℕ → ℕ
page_byte None i = 0
page_byte (Some page) i = slice_index page i

-- the byte at an address
abbrev pub byte_at : Pages → ℕ → ℕ
byte_at pages a = page_byte (get nat_eq pages (a / page_size)) (a % page_size)

-- the bytes of a run of addresses, and zeros after them
pub record IsRun (space : ℕ) (bytes : ℕ → ℕ) (a n : ℕ) (xs : List ℕ) : Type 0 where
  pub here : (i : ℕ) → i < n → slice_index xs i ≡ bytes ((a + i) % space)
  pub rest : (i : ℕ) → n ≤ i → slice_index xs i ≡ 0

-- the page of each address of a run is there
abbrev pub HasPages : ℕ → Pages → ℕ → ℕ → Type 0
HasPages space pages a n = (i : ℕ) → i < n → IsSome (get nat_eq pages (((a + i) % space) / page_size))

-- every page that was there is there
abbrev pub KeepsPages : Pages → Pages → Type 0
KeepsPages old new = (k : ℕ) → IsSome (get nat_eq old k) → IsSome (get nat_eq new k)
