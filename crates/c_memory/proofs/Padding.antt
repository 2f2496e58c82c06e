-- An address that no scalar part of a type covers is spared by a store.
use Rattle.std.proofs.Common.{◌≡◌, ℕ, ◌+◌, ◌*◌, true, sym, subst, add-zero, add_assoc}
use Rattle.c_values.specs.Types.{CType}
use Rattle.c_values.specs.Layout.{Layout, Shape, Incomplete, Scalar, Record, Row, Fields, no_fields, field, size, size_of, is_scalar}
use Rattle.c_values.proofs.Laid.{IsLaid, AreLaid, structs_of}
use Rattle.c_values.proofs.Parts.{laid_shape}
use Rattle.c_memory.specs.Tags.{IsPart, scalar, of_member, of_element, IsMember, here, later}
use Rattle.c_memory.proofs.Frame.{Misses, Spares, AllSpare}

module _ (l : Layout) (space x : ℕ) where
  -- x is the address of no byte of a scalar part
  abbrev pub NoScalarAt : Shape → ℕ → Type 0
  NoScalarAt s a = (d : ℕ) (t : CType) → IsPart s d t → is_scalar t ≡ true → Misses space (a + d) (size_of l t) x

  part_at : (s : Shape) (name : _) (n align : ℕ) (fs : Fields) (at a : ℕ) → NoScalarAt (Record name n align fs) a → IsMember fs at s → NoScalarAt s (a + at)
  part_at s name n align fs at a h m d t p is = subst (λ b. Misses space b (size_of l t) x) (sym (add_assoc a at d)) (h (at + d) t (of_member m p) is)

  mutual
    pub padding_spared : (s : Shape) (a : ℕ) → IsLaid l.target (structs_of l) s → NoScalarAt s a → Spares space s a x
    padding_spared Incomplete a h none = tt
    padding_spared (Scalar u width) a h none =
        subst (λ s. Misses space a (size s) x) (laid_shape l.target (structs_of l) (Scalar u width) h) (subst (λ b. Misses space b (size_of l u) x) (add-zero a) (none 0 u scalar h.scalar))
    padding_spared (Record name n align fs) a h none = all_padding_spared fs a h.members (λ at s m. part_at s name n align fs at a none m)
    padding_spared (Row e n) a h none = λ i lt. padding_spared e (a + i * size e) h (λ d t p s. subst (λ b. Misses space b (size_of l t) x) (sym (add_assoc a (i * size e) d)) (none (i * size e + d) t (of_element lt p) s))

    all_padding_spared : (fs : Fields) (a : ℕ) → AreLaid l.target (structs_of l) fs → ((at : ℕ) (s : Shape) → IsMember fs at s → NoScalarAt s (a + at)) → AllSpare space fs a x
    all_padding_spared no_fields a h none = tt
    all_padding_spared (field at s fs) a h none = (padding_spared s (a + at) h.first (none at s here), all_padding_spared fs a h.others (λ at' s' m. none at' s' (later m)))
