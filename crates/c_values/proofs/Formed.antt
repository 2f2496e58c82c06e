-- What the shapes of complete types are like: members stand in order, aligned and within the struct, and a size is a
-- multiple of the alignment.
use Rattle.std.proofs.Common.{◌≡◌, ℕ, ◌+◌, ◌*◌, ◌/◌, ◌<◌, ◌≤◌, ◌⊎◌, arith}
use Rattle.std.proofs.Math.Nat.{dvd_refl, dvd-mul_left_of_dvd}
use Prim.Native.Nat.{◌∣◌}
use Rattle.c_values.specs.Layout.{Shape, Incomplete, Scalar, Record, Row, Fields, no_fields, field, size, alignment}

-- the alignments of the two targets
abbrev pub IsAlignment : ℕ → Type 0
IsAlignment a = (a ≡ 1) ⊎ ((a ≡ 2) ⊎ ((a ≡ 4) ⊎ (a ≡ 8)))

abbrev mutual
  pub IsFormed : Shape → Type 0
  IsFormed Incomplete = ⊥
  IsFormed (Scalar t width) = record { whole : width ≡ 8 * (width / 8); bytes : IsAlignment (width / 8) }
  IsFormed (Record x n align fs) = record { aligned : IsAlignment align; multiple : align ∣ n; some : 0 < n; members : AreFormed align n 0 fs }
  IsFormed (Row e n) = record { some : 0 < n; element : IsFormed e }

  -- members of a struct of this alignment and size, from this offset on
  pub AreFormed : ℕ → ℕ → ℕ → Fields → Type 0
  AreFormed align n at no_fields = at ≤ n
  AreFormed align n at (field offset s fs) = record { after : at ≤ offset; aligned : alignment s ∣ offset; within : alignment s ∣ align; first : IsFormed s; others : AreFormed align n (offset + size s) fs }

pub formed_alignment : (s : Shape) → IsFormed s → IsAlignment (alignment s)
formed_alignment Incomplete h = absurd h
formed_alignment (Scalar t width) h = h.bytes
formed_alignment (Record x n align fs) h = h.aligned
formed_alignment (Row e n) h = formed_alignment e h.element

pub size_multiple : (s : Shape) → IsFormed s → alignment s ∣ size s
size_multiple Incomplete h = absurd h
size_multiple (Scalar t width) h = dvd_refl (width / 8)
size_multiple (Record x n align fs) h = h.multiple
size_multiple (Row e n) h = dvd-mul_left_of_dvd (alignment e) (size_multiple e h.element) n

pub some_bytes : (a : ℕ) → IsAlignment a → 0 < a
some_bytes a h = omega arith

some_product : (m n : ℕ) → 0 < m → 0 < n → 0 < m * n
some_product m n h k = grind arith

pub size_some : (s : Shape) → IsFormed s → 0 < size s
size_some Incomplete h = absurd h
size_some (Scalar t width) h = some_bytes (width / 8) h.bytes
size_some (Record x n align fs) h = h.some
size_some (Row e n) h = some_product n (size e) h.some (size_some e h.element)

-- the last member ends within the struct
pub members_end : (align n at : ℕ) (fs : Fields) → AreFormed align n at fs → at ≤ n
members_end align n at no_fields h = h
members_end align n at (field offset s fs) h = let later : offset + size s ≤ n = members_end align n (offset + size s) fs h.others in omega (arith, h.after)
