-- A tag without a fault is a tag beside the earlier ones.
use Rattle.std.proofs.Common.{◌≡◌, ℕ, zero, suc, ◌+◌, ◌%◌, ◌<◌, nat_eq, nat_lt, nat_le, ◌⊎◌, inl, inr, Bool, true, false, not, ◌&&◌, cond, List, [], ◌∷◌, ◌++◌, Option, Some, None, slice_get, refl, subst, arith}
use Rattle.std.proofs.lemmas.Bool.{and_parts, leb-true, or_cases}
use Rattle.std.proofs.lemmas.Bool.Decides.{nat_tests}
use Rattle.c_memory.specs.declared.faults.HeapFault.{HeapFault}
use Rattle.c_memory.specs.declared.faults.HeapFault.TheVariants.{Misaligned, Null, Past, Overlap}
use Rattle.c_values.specs.Layout.{Layout, IsLayout, size_of, align_of, space, shape_of, is_object}
use Rattle.c_values.proofs.Formed.{formed_alignment, some_bytes}
use Rattle.c_values.proofs.Laid.{shape_good}
use Rattle.c_memory.specs.Memory.{Tag}
use Rattle.c_memory.specs.Tags.{IsTag, AreApart, ApartFrom, AreTags}
use Rattle.c_memory.specs.TagFault.{are_apart, is_apart, tag_fault, IsRoot}
use Rattle.c_memory.proofs.Objects.{object_complete}
use Rattle.c_memory.proofs.Rows.{object_some}

-- alignments aren't 0
pub some_alignment : (l : Layout) (t : _) → IsLayout l → is_object l t ≡ true → 0 < align_of l t
some_alignment l t h object =
    let f = (shape_good l h t (object_complete l t object)).formed in
    some_bytes (align_of l t) (formed_alignment (shape_of l t) f)

record Faultless (b₁ b₂ b₃ b₄ : Bool) : Type 0 where
  aligned : b₁ ≡ false
  some : b₂ ≡ false
  fits : b₃ ≡ false
  apart : b₄ ≡ true

faultless : (b₁ b₂ b₃ b₄ : Bool) (e₁ e₂ e₃ e₄ : HeapFault) → cond b₁ (Some e₁) (cond b₂ (Some e₂) (cond b₃ (Some e₃) (cond b₄ None (Some e₄)))) ≡ None → Faultless b₁ b₂ b₃ b₄
faultless false false false true e₁ e₂ e₃ e₄ h = record { aligned = refl; some = refl; fits = refl; apart = refl }
faultless _ _ _ _ e₁ e₂ e₃ e₄ h = absurd cc

pointer_ok : (r a n s : ℕ) → nat_lt 0 r ≡ false → nat_eq a 0 ≡ false → nat_lt s (a + n) ≡ false → (nat_eq r 0 && not (nat_eq a 0) && nat_le (a + n) s) ≡ true
pointer_ok r a n s h k j = grind (arith, nat_tests)

module _ (l : Layout) (earlier : List Tag) (k : ℕ) (t : Tag) (h : tag_fault l earlier k t ≡ None) where
  parts : Faultless (nat_lt 0 (t.address % align_of l t.type)) (nat_eq t.address 0) (nat_lt (space l) (t.address + size_of l t.type)) (is_apart l t earlier)
  parts = faultless (nat_lt 0 (t.address % align_of l t.type)) (nat_eq t.address 0) (nat_lt (space l) (t.address + size_of l t.type)) (is_apart l t earlier) (Misaligned k) (Null k) (Past k) (Overlap k) h

  sound_tag : IsRoot l t → IsTag l t
  sound_tag root = record {
    root = root.root;
    object = root.object;
    placed = pointer_ok (t.address % align_of l t.type) t.address (size_of l t.type) (space l) parts.aligned parts.some parts.fits;
  }

apart_of : (l : Layout) (t u : Tag) → are_apart l t u ≡ true → AreApart l u t
apart_of l t u h = by_case (or_cases (nat_le (t.address + size_of l t.type) u.address) (nat_le (u.address + size_of l u.type) t.address) h)
  where
    by_case : (nat_le (t.address + size_of l t.type) u.address ≡ true) ⊎ (nat_le (u.address + size_of l u.type) t.address ≡ true) → AreApart l u t
    by_case (inl e) = inr (leb-true (t.address + size_of l t.type) u.address e)
    by_case (inr e) = inl (leb-true (u.address + size_of l u.type) t.address e)

apart_pushed : (l : Layout) (u t : Tag) (us : List Tag) → ApartFrom l u us → AreApart l u t → ApartFrom l u (us ++ t ∷ [])
apart_pushed l u t [] h a = (a, tt)
apart_pushed l u t (v ∷ vs) h a = (h.0, apart_pushed l u t vs h.1 a)

tags_pushed : (l : Layout) (ts : List Tag) (t : Tag) → AreTags l ts → IsTag l t → is_apart l t ts ≡ true → AreTags l (ts ++ t ∷ [])
tags_pushed l [] t h tag apart = (tag, tt, tt)
tags_pushed l (u ∷ us) t h tag apart =
    let p = and_parts (are_apart l t u) (is_apart l t us) apart in
    (h.0, apart_pushed l u t us h.1 (apart_of l t u p.0), tags_pushed l us t h.2 tag p.1)

pub sound_tags : (l : Layout) (ts : List Tag) (k : ℕ) (t : Tag) → AreTags l ts → IsRoot l t → tag_fault l ts k t ≡ None → AreTags l (ts ++ t ∷ [])
sound_tags l ts k t tags root e = tags_pushed l ts t tags (sound_tag l ts k t e root) (parts l ts k t e).apart

apart_addresses : (l : Layout) (t u : Tag) → 0 < size_of l t.type → 0 < size_of l u.type → AreApart l u t → u.address ≡ t.address → ⊥
apart_addresses l t u s r (inl h) e = omega arith
apart_addresses l t u s r (inr h) e = omega arith

-- no earlier tag is at its address
pub sound_address : (l : Layout) (ts : List Tag) (t : Tag) → IsLayout l → AreTags l ts → 0 < size_of l t.type → is_apart l t ts ≡ true →
    (j : ℕ) (u : Tag) → slice_get ts j ≡ Some u → u.address ≡ t.address → ⊥
sound_address l [] t h tags some apart j u e = absurd cc
sound_address l (v ∷ vs) t h tags some apart zero u e =
    let p = and_parts (are_apart l t v) (is_apart l t vs) apart in
    let same : v ≡ u = some_same e in
    subst (λ w. w.address ≡ t.address → ⊥) same (apart_addresses l t v some (object_some l v.type h tags.0.object) (apart_of l t v p.0))
  where
    some_same : {A : Type 0} {a b : A} → ◌≡◌ {A = Option A} (Some a) (Some b) → a ≡ b
    some_same k = cc
sound_address l (v ∷ vs) t h tags some apart (suc j) u e =
    sound_address l vs t h tags.2 some (and_parts (are_apart l t v) (is_apart l t vs) apart).1 j u e

pub fault_address : (l : Layout) (ts : List Tag) (k : ℕ) (t : Tag) → IsLayout l → AreTags l ts → is_object l t.type ≡ true → tag_fault l ts k t ≡ None →
    (j : ℕ) (u : Tag) → slice_get ts j ≡ Some u → u.address ≡ t.address → ⊥
fault_address l ts k t h tags object e = sound_address l ts t h tags (object_some l t.type h object) (parts l ts k t e).apart
