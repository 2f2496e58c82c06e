-- Memory of bytes, little-endian (C99 6.2.6.1). An address is a number modulo the size of the space: what goes over the
-- end of the space goes on at 0. Padding is neither read nor written. One function from addresses to bytes; the code keeps
-- pages.
use Rattle.std.specs.Prelude.{ℕ, zero, suc, ◌+◌, ◌*◌, ◌/◌, ◌%◌, ◌<◌, List, nat_eq, ℤ, pos, ◌+ℤ◌, if◌then◌else◌, Option, Some, None}
use Rattle.std.specs.Int.{int_rem_euclid}
use Rattle.c_values.specs.Types.{CType}
use Rattle.c_values.specs.Number.{natural}
use Rattle.c_values.specs.Value.{Value, Values, Bits, Parts, no_values, more, nothing}
use Rattle.c_values.specs.Layout.{Shape, Incomplete, Scalar, Record, Row, Fields, no_fields, field, size}
use Rattle.c_values.specs.Path.{Step, Spot, spot}

-- a tagged address: an object of this type lies there
pub record Tag : Type 0 where
  pub address : ℕ
  pub type : CType

-- the byte at each address, and the tags
pub record Memory : Type 0 where
  pub bytes : ℕ → ℕ
  pub tags : List Tag

-- what is stored at each address is a byte
abbrev pub AreBytes : (ℕ → ℕ) → Type 0
AreBytes bytes = (a : ℕ) → bytes a < 256

abbrev pub little_endian : ℕ → (ℕ → ℕ) → ℕ → ℕ → ℕ
little_endian space bytes a zero = 0
little_endian space bytes a (suc n) = bytes (a % space) + 256 * little_endian space bytes (a + 1) n

-- the elements from an address on, each so many bytes after the one before
abbrev pub loaded_elements : (ℕ → Value) → ℕ → ℕ → ℕ → Values
loaded_elements load step a zero = no_values
loaded_elements load step a (suc n) = more (load a) (loaded_elements load step (a + step) n)

abbrev mutual
  -- the value of a shape that lies at an address
  pub load : ℕ → (ℕ → ℕ) → Shape → ℕ → Value
  load space bytes Incomplete a = nothing
  load space bytes (Scalar t width) a = Bits (record { width = width; bits = little_endian space bytes a (width / 8) })
  load space bytes (Record x n align fs) a = Parts (loaded_members space bytes fs a)
  load space bytes (Row e n) a = Parts (loaded_elements (λ b. load space bytes e b) (size e) a n)

  pub loaded_members : ℕ → (ℕ → ℕ) → Fields → ℕ → Values
  loaded_members space bytes no_fields a = no_values
  loaded_members space bytes (field offset s fs) a = more (load space bytes s (a + offset)) (loaded_members space bytes fs a)

abbrev pub with_byte : ℕ → ℕ → (ℕ → ℕ) → ℕ → ℕ
with_byte a b bytes x = if nat_eq x a then b else bytes x

-- the low bytes of a number, the lowest first
abbrev pub with_bytes : ℕ → ℕ → ℕ → ℕ → (ℕ → ℕ) → ℕ → ℕ
with_bytes space a zero n bytes = bytes
with_bytes space a (suc k) n bytes = with_bytes space (a + 1) k (n / 256) (with_byte (a % space) (n % 256) bytes)

abbrev pub stored_elements : (ℕ → Value → (ℕ → ℕ) → ℕ → ℕ) → ℕ → ℕ → ℕ → Values → (ℕ → ℕ) → ℕ → ℕ
stored_elements store step a (suc n) (more v vs) bytes = stored_elements store step (a + step) n vs (store a v bytes)
stored_elements store step a _ _ bytes = bytes

abbrev mutual
  -- the bytes after a value of a shape is stored at an address; what doesn't fit the shape isn't stored
  pub store : ℕ → Shape → ℕ → Value → (ℕ → ℕ) → ℕ → ℕ
  store space (Scalar t width) a (Bits w) bytes = with_bytes space a (width / 8) w.bits bytes
  store space (Record x n align fs) a (Parts vs) bytes = stored_members space fs a vs bytes
  store space (Row e n) a (Parts vs) bytes = stored_elements (λ b v bs. store space e b v bs) (size e) a n vs bytes
  store space s a v bytes = bytes

  pub stored_members : ℕ → Fields → ℕ → Values → (ℕ → ℕ) → ℕ → ℕ
  stored_members space (field offset s fs) a (more v vs) bytes = stored_members space fs a vs (store space s (a + offset) v bytes)
  stored_members space fs a vs bytes = bytes

-- an address and an offset, modulo the space
abbrev pub address_at : ℕ → ℕ → ℤ → ℕ
address_at space a offset = natural (int_rem_euclid (pos a +ℤ offset) (pos space))

abbrev pub load_spot : ℕ → (ℕ → ℕ) → ℕ → Option Spot → Value
load_spot space bytes a None = nothing
load_spot space bytes a (Some q) = load space bytes q.shape (address_at space a q.offset)

-- what lies at the end of a path from an address
abbrev pub load_at : ℕ → (ℕ → ℕ) → Shape → ℕ → List Step → Value
load_at space bytes s a path = load_spot space bytes a (spot s path)

abbrev pub store_spot : ℕ → ℕ → Option Spot → Value → (ℕ → ℕ) → ℕ → ℕ
store_spot space a None v bytes = bytes
store_spot space a (Some q) v bytes = store space q.shape (address_at space a q.offset) v bytes

abbrev pub store_at : ℕ → Shape → ℕ → List Step → Value → (ℕ → ℕ) → ℕ → ℕ
store_at space s a path v bytes = store_spot space a (spot s path) v bytes
