-- A struct whose members have formed shapes is formed.
use Rattle.std.proofs.Common.{◌≡◌, ℕ, ◌+◌, ◌-◌, ◌/◌, ◌%◌, ◌<◌, ◌≤◌, max, inl, inr, true, List, [], ◌∷◌, refl, sym, subst, le_refl, arith}
use Rattle.std.proofs.Math.Nat.{one-dvd, dvd-mul_left, dvd_of_mod-eq-zero}
use Rattle.std.proofs.lemmas.Bool.{false≢true, and_parts}
use Prim.Native.Nat.{◌∣◌}
use Rattle.c_values.specs.Types.{CType}
use Rattle.c_values.specs.Layout.{Shape, size, alignment, aligned, placed, end_of, widest, Member, StructDef, struct_shape, is_complete, all_members_complete, has_member}
use Rattle.c_values.proofs.Formed.{IsAlignment, IsFormed, AreFormed, formed_alignment, some_bytes, size_some, members_end}

two_divides : (b : ℕ) → IsAlignment b → 2 ≤ b → b % 2 ≡ 0
two_divides b h le = omega arith

four_divides : (b : ℕ) → IsAlignment b → 4 ≤ b → b % 4 ≡ 0
four_divides b h le = omega arith

eight_divides : (b : ℕ) → IsAlignment b → 8 ≤ b → b % 8 ≡ 0
eight_divides b h le = omega arith

-- alignments are powers of two
divides_greater : (a b : ℕ) → IsAlignment a → IsAlignment b → a ≤ b → a ∣ b
divides_greater a b (inl e) k le = subst (λ x. x ∣ b) (sym e) (one-dvd b)
divides_greater a b (inr (inl e)) k le = subst (λ x. x ∣ b) (sym e) (dvd_of_mod-eq-zero 2 (two_divides b k (omega arith)))
divides_greater a b (inr (inr (inl e))) k le = subst (λ x. x ∣ b) (sym e) (dvd_of_mod-eq-zero 4 (four_divides b k (omega arith)))
divides_greater a b (inr (inr (inr e))) k le = subst (λ x. x ∣ b) (sym e) (dvd_of_mod-eq-zero 8 (eight_divides b k (omega arith)))

greater_alignment : (a b : ℕ) → IsAlignment a → IsAlignment b → IsAlignment (max a b)
greater_alignment a b h k = grind arith

pub aligned_after : (at align : ℕ) → 0 < align → at ≤ aligned at align
aligned_after at align h = omega arith

aligned_multiple : (at align : ℕ) → align ∣ aligned at align
aligned_multiple at align = dvd-mul_left align ((at + (align - 1)) / align)

left_below : (a b n : ℕ) → max a b ≤ n → a ≤ n
left_below a b n h = omega arith

right_below : (a b n : ℕ) → max a b ≤ n → b ≤ n
right_below a b n h = omega arith

module _ (shape : CType → Shape) (sound : (u : CType) → is_complete (shape u) ≡ true → IsFormed (shape u)) where
  widest_alignment : (at : ℕ) (ms : List Member) → all_members_complete shape ms ≡ true → IsAlignment (widest (placed shape at ms))
  widest_alignment at [] h = inl refl
  widest_alignment at (m ∷ ms) h =
      let p = and_parts (is_complete (shape m.type)) (all_members_complete shape ms) h in
      let s = shape m.type in
      greater_alignment (alignment s) (widest (placed shape (aligned at (alignment s) + size s) ms))
      (formed_alignment s (sound m.type p.0)) (widest_alignment (aligned at (alignment s) + size s) ms p.1)

  placed_formed : (align n at : ℕ) (ms : List Member) → all_members_complete shape ms ≡ true → IsAlignment align →
      widest (placed shape at ms) ≤ align → end_of at (placed shape at ms) ≤ n → AreFormed align n at (placed shape at ms)
  placed_formed align n at [] h a wide end = end
  placed_formed align n at (m ∷ ms) h a wide end =
      let p = and_parts (is_complete (shape m.type)) (all_members_complete shape ms) h in
      let f = sound m.type p.0 in
      let s = shape m.type in
      let own = formed_alignment s f in
      let at' = aligned at (alignment s) + size s in
      record {
        after = aligned_after at (alignment s) (some_bytes (alignment s) own);
        aligned = aligned_multiple at (alignment s);
        within = divides_greater (alignment s) align own a (left_below (alignment s) (widest (placed shape at' ms)) align wide);
        first = f;
        others = placed_formed align n at' ms p.1 a (right_below (alignment s) (widest (placed shape at' ms)) align wide) end;
      }

  some_members : (align n : ℕ) (ms : List Member) → has_member ms ≡ true → AreFormed align n 0 (placed shape 0 ms) → 0 < n
  some_members align n [] some f = absurd (false≢true some)
  some_members align n (m ∷ ms) some f =
      let s = shape m.type in
      let at = aligned 0 (alignment s) + size s in
      let end : at ≤ n = members_end align n at (placed shape at ms) f.others in
      let own : 0 < size s = size_some s f.first in
      omega arith

  pub struct_formed : (d : StructDef) → has_member d.members ≡ true → all_members_complete shape d.members ≡ true → IsFormed (struct_shape shape d)
  struct_formed d some h =
      let fs = placed shape 0 d.members in
      let a = widest_alignment 0 d.members h in
      let n = aligned (end_of 0 fs) (widest fs) in
      let f = placed_formed (widest fs) n 0 d.members h a (le_refl (widest fs)) (aligned_after (end_of 0 fs) (widest fs) (some_bytes (widest fs) a)) in
      record { aligned = a; multiple = aligned_multiple (end_of 0 fs) (widest fs); some = some_members (widest fs) n d.members some f; members = f }
