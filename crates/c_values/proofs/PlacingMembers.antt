-- Placing the members of a struct one after another.
use Rattle.std.proofs.Common.{◌≡◌, ℕ, ◌+◌, ◌/◌, ◌<◌, ◌≤◌, max, min, true, false, leb, List, [], ◌∷◌, ◌++◌, refl, sym, ap, ◌∙◌, append_assoc, append-nil, add-one, length, get_or, drop, map, subst, subst₂, lit≤, arith}
use Rattle.std.proofs.lemmas.Bool.{and_parts, lt-leb}
use Rattle.std.proofs.Math.Seq.{drop-cons}
use Rattle.std.specs.Prelude.{Option, Some, None, String}
use Rattle.std.specs.HashMap.{get_by_text}
use Rattle.c_values.specs.Name.{Name}
use Rattle.c_values.specs.Types.{Target, Ilp32, Lp64, CType, Integer, Void, Ptr, Struct, Array, IntType, width_of}
use Rattle.c_values.specs.Layout.{Shape, Incomplete, Scalar, Record, Fields, no_fields, field, size, alignment, aligned, placed, end_of, widest, Member, StructDef, struct_shape, shape_from, is_complete, are_complete, all_members_complete, largest_size}
use Rattle.std.specs.declared.alloc.Global.{Global}
use Rattle.c_values.specs.declared.types.CType as C
use Rattle.c_values.specs.CodeLayout.{member_of}
use Rattle.c_values.specs.declared.places.Places as P
use Rattle.c_values.specs.declared.places.Extent as E
use Rattle.c_values.specs.CodeStructTable.{Table, Measures, Describes, DescribesShape, offsets}
use Rattle.c_values.proofs.Formed.{some_bytes, formed_alignment}
use Rattle.c_values.proofs.Placed.{aligned_after}
use Rattle.c_values.proofs.Laid.{integer_formed}

-- alignments are at least 1
abbrev AllAligned : (CType → Shape) → Type 0
AllAligned shape = (u : CType) → 1 ≤ alignment (shape u)

described_alignment : (e : Option P.Places) (s : Shape) → DescribesShape e s → 1 ≤ alignment s
described_alignment None Incomplete h = omega arith
described_alignment (Some e) (Record x n align fs) h = omega (arith, h.alignment, e.some)
described_alignment _ _ h = absurd h

scalar_alignment : (t : Target) (i : IntType) → 1 ≤ width_of t i / 8
scalar_alignment t i = some_bytes (width_of t i / 8) (formed_alignment (Scalar (Integer i) (width_of t i)) (integer_formed t i))

pub all_aligned : (t : Target) (table : Table) (structs : Name → Shape) → Describes table structs → AllAligned (shape_from t structs)
all_aligned t table structs h (Integer i) = scalar_alignment t i
all_aligned t table structs h Void = omega arith
all_aligned Ilp32 table structs h (Ptr u) = lit≤ tt
all_aligned Lp64 table structs h (Ptr u) = lit≤ tt
all_aligned t table structs h (Struct x) = described_alignment (get_by_text table x) (structs x) (h.at x)
all_aligned t table structs h (Array u n) = all_aligned t table structs h u

some_widest : (fs : Fields) → 1 ≤ widest fs
some_widest no_fields = omega arith
some_widest (field at s fs) = omega (arith, some_widest fs)

module _ (shape : CType → Shape) where
  -- the members up to some have been placed
  pub record Placing (all rest : List Member) (end align : ℕ) (before : List ℕ) : Type 0 where
    pub ends : end_of 0 (placed shape 0 all) ≡ end_of end (placed shape end rest)
    pub wide : widest (placed shape 0 all) ≡ max align (widest (placed shape end rest))
    pub places : offsets (placed shape 0 all) ≡ before ++ offsets (placed shape end rest)

  pub placing_start : (ms : List Member) → Placing ms ms 0 1 []
  placing_start ms = record { ends = refl; wide = let w = some_widest (placed shape 0 ms) in omega arith; places = refl }

  pub placing_more : (all rest : List Member) (m : Member) (end align : ℕ) (before : List ℕ) → Placing all (m ∷ rest) end align before →
      Placing all rest (aligned end (alignment (shape m.type)) + size (shape m.type)) (max align (alignment (shape m.type))) (before ++ aligned end (alignment (shape m.type)) ∷ [])
  placing_more all rest m end align before h =
      let s = shape m.type in
      let next = aligned end (alignment s) + size s in
      let w = widest (placed shape next rest) in
      let wide : widest (placed shape 0 all) ≡ max align (max (alignment s) w) = h.wide in
      record {
        ends = h.ends;
        wide = omega arith;
        places = h.places ∙ sym (append_assoc before (aligned end (alignment s) ∷ []) (offsets (placed shape next rest)));
      }

  ends_after : AllAligned shape → (at : ℕ) (ms : List Member) → at ≤ end_of at (placed shape at ms)
  ends_after h at [] = omega arith
  ends_after h at (m ∷ ms) =
      let s = shape m.type in
      let next = aligned at (alignment s) + size s in
      omega (arith, aligned_after at (alignment s) (h m.type), ends_after h next ms)

  -- a member that ends past the largest object makes the struct too large
  pub placing_large : AllAligned shape → (d : StructDef) (rest : List Member) (m : Member) (end align : ℕ) (before : List ℕ) → Placing d.members (m ∷ rest) end align before →
      65536 < aligned end (alignment (shape m.type)) + size (shape m.type) → leb (size (struct_shape shape d)) largest_size ≡ false
  placing_large h d rest m end align before p large =
      let s = shape m.type in
      let next = aligned end (alignment s) + size s in
      let fs = placed shape 0 d.members in
      let later : next ≤ end_of next (placed shape next rest) = ends_after h next rest in
      let ends : end_of 0 fs ≡ end_of next (placed shape next rest) = p.ends in
      let whole : end_of 0 fs ≤ aligned (end_of 0 fs) (widest fs) = aligned_after (end_of 0 fs) (widest fs) (some_widest fs) in
      lt-leb (aligned (end_of 0 fs) (widest fs)) largest_size (omega arith)

  complete_members : (at : ℕ) (ms : List Member) → all_members_complete shape ms ≡ true → are_complete (placed shape at ms) ≡ true
  complete_members at [] h = refl
  complete_members at (m ∷ ms) h =
      let p = and_parts (is_complete (shape m.type)) (all_members_complete shape ms) h in
      rw p.0 (complete_members (aligned at (alignment (shape m.type)) + size (shape m.type)) ms p.1)

  -- where all members are placed
  pub placing_end : (d : StructDef) (end align : ℕ) (before : List ℕ) → 1 ≤ align → all_members_complete shape d.members ≡ true → Placing d.members [] end align before →
      (e : P.Places) → e.size ≡ aligned end align → e.alignment ≡ align → e.offsets.items ≡ before → DescribesShape (Some e) (struct_shape shape d)
  placing_end d end align before some complete h e size' align' offsets' =
      let wide : widest (placed shape 0 d.members) ≡ align = omega (arith, h.wide) in
      record {
        size = size' ∙ ap (λ n. aligned n align) (sym h.ends) ∙ ap (aligned (end_of 0 (placed shape 0 d.members))) (sym wide);
        alignment = align' ∙ sym wide;
        offsets = offsets' ∙ sym (h.places ∙ append-nil before);
        complete = complete_members 0 d.members complete;
      }

  exact_size : (e n offset : ℕ) → e ≡ min n 65537 → offset + e ≤ 65536 → e ≡ n
  exact_size e n offset h small = omega arith

  -- one turn, by the extent of the member's type
  pub placing_step : (all rest : List Member) (m : Member) (end align : ℕ) (before : List ℕ) → Placing all (m ∷ rest) end align before →
      (e : E.Extent) (offset align' : ℕ) (after : List ℕ) → Measures e (shape m.type) → offset ≡ aligned end e.alignment → offset + e.size ≤ 65536 →
      align' ≡ max align e.alignment → after ≡ before ++ offset ∷ [] → Placing all rest (offset + e.size) align' after
  placing_step all rest m end align before h e offset align' after measured at small wider longer =
      let s = shape m.type in
      let at' : offset ≡ aligned end (alignment s) = at ∙ ap (aligned end) measured.alignment in
      let next : aligned end (alignment s) + size s ≡ offset + e.size = subst₂ (λ x y. x + y ≡ offset + e.size) at' (exact_size e.size (size s) offset measured.size small) refl in
      subst (λ n. Placing all rest n align' after) next
      (subst₂ (λ a l. Placing all rest (aligned end (alignment s) + size s) a l) (sym (wider ∙ ap (max align) measured.alignment)) (sym (longer ∙ ap (λ x. before ++ x ∷ []) at'))
      (placing_more all rest m end align before h))

  pub placing_too_large : AllAligned shape → (d : StructDef) (rest : List Member) (m : Member) (end align : ℕ) (before : List ℕ) → Placing d.members (m ∷ rest) end align before →
      (e : E.Extent) (offset : ℕ) → Measures e (shape m.type) → offset ≡ aligned end e.alignment → 65536 < offset + e.size → leb (size (struct_shape shape d)) largest_size ≡ false
  placing_too_large all d rest m end align before h e offset measured at large =
      let s = shape m.type in
      let at' : offset ≡ aligned end (alignment s) = at ∙ ap (aligned end) measured.alignment in
      placing_large all d rest m end align before h (omega (arith, at', measured.size))

pub next_members : (items : List (String Global × C.CType)) (i : ℕ) (x : String Global × C.CType) → i < length items → x ≡ get_or items i x →
    map member_of (drop i items) ≡ member_of x ∷ map member_of (drop (i + 1) items)
next_members items i x h e = ap (map member_of) (drop-cons items i x h) ∙ rw (add-one, ← e) refl
