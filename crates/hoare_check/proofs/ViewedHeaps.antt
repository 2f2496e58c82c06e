-- Every typed heap that can be is the view of a memory that can be: of one where each cell's value is stored.
use Rattle.std.proofs.Common.{◌≡◌, ℕ, ◌+◌, ◌%◌, ◌<◌, ◌≤◌, List, [], ◌∷◌, map, inl, inr, refl, sym, ap, ap₂, ◌∙◌, arith}
use Rattle.c_values.specs.Layout.{Layout, IsLayout, shape_of, size_of, space}
use Rattle.c_memory.specs.Memory.{Memory, Tag, AreBytes, store}
use Rattle.c_memory.specs.Tags.{IsTag, AreApart, ApartFrom, AreTags, IsWellTagged}
use Rattle.c_memory.specs.TypedHeap.{TypedHeap, tags_of, view}
use Rattle.c_memory.specs.Heap.{OnTypes, IsHeap, CellsFit}
use Rattle.c_memory.proofs.Objects.{object_fits}
use Rattle.c_memory.proofs.Covered.{tag_good, pointer_parts}
use Rattle.c_memory.proofs.Views.{cell_at}
use Rattle.c_memory.proofs.RoundTrip.{load_same, stored_back}
use Rattle.c_memory.proofs.Frame.{store_frame, spares}
use Rattle.c_memory.proofs.Loaded.{store_bytes}
use Rattle.c_memory.proofs.Modulus.{apart_plain}
use Rattle.c_memory.specs.TypedHeap.{Cell}

-- each value is stored at its tag
abbrev pub bytes_of : Layout → TypedHeap → ℕ → ℕ
bytes_of l [] = λ x. 0
bytes_of l (c ∷ cs) = store (space l) (shape_of l c.tag.type) c.tag.address c.value (bytes_of l cs)

abbrev pub memory_of : Layout → TypedHeap → Memory
memory_of l cells = record { bytes = bytes_of l cells; tags = tags_of cells }

module _ (l : Layout) (h : IsLayout l) where
  are_bytes : (cells : TypedHeap) → AreBytes (bytes_of l cells)
  are_bytes [] x = omega arith
  are_bytes (c ∷ cs) x = store_bytes (space l) (shape_of l c.tag.type) c.tag.address c.value (bytes_of l cs) (are_bytes cs) x

  module _ (c : Cell) (i : IsTag l c.tag) (bytes : ℕ → ℕ) where
    abbrev stored : ℕ → ℕ
    stored = store (space l) (shape_of l c.tag.type) c.tag.address c.value bytes

    fits : c.tag.address + size_of l c.tag.type ≤ space l
    fits = (pointer_parts l c.tag.type c.tag.address i.placed).fits

    -- what lies at a tag apart stays
    other_stays : (u : Tag) → IsTag l u → AreApart l c.tag u → cell_at l stored u ≡ cell_at l bytes u
    other_stays u j apart =
        ap (λ v. record { tag = u; value = v }) (load_same (space l) stored bytes (shape_of l u.type) u.address (tag_good l h u j).formed agrees)
      where
        fits_there : u.address + size_of l u.type ≤ space l
        fits_there = (pointer_parts l u.type u.address j.placed).fits

        clash : (x y : ℕ) → AreApart l c.tag u → x < size_of l u.type → y < size_of l c.tag.type → (c.tag.address + y) % space l ≡ (u.address + x) % space l → ⊥
        clash x y (inl o) lt less k = apart_plain (space l) (c.tag.address + y) (u.address + x) (omega arith) (omega (arith, fits_there)) k
        clash x y (inr o) lt less k = apart_plain (space l) (u.address + x) (c.tag.address + y) (omega arith) (omega (arith, fits)) (sym k)

        agrees : (x : ℕ) → x < size_of l u.type → stored ((u.address + x) % space l) ≡ bytes ((u.address + x) % space l)
        agrees x lt = store_frame (space l) ((u.address + x) % space l) (shape_of l c.tag.type) c.tag.address c.value bytes
            (spares (space l) ((u.address + x) % space l) (shape_of l c.tag.type) c.tag.address (tag_good l h c.tag i).formed
            (λ y less k. clash x y apart lt less k))

    others_stay : (us : List Tag) → ApartFrom l c.tag us → AreTags l us → map (cell_at l stored) us ≡ map (cell_at l bytes) us
    others_stay [] apart tags = refl
    others_stay (u ∷ us) apart tags = ap₂ (λ d ds. d ∷ ds) (other_stays u tags.0 apart.0) (others_stay us apart.1 tags.2)

  cells_back : (cells : TypedHeap) → AreTags l (tags_of cells) → CellsFit l cells → map (cell_at l (bytes_of l cells)) (tags_of cells) ≡ cells
  cells_back [] tags fit = refl
  cells_back (c ∷ cs) tags fit =
      ap₂ (λ d ds. d ∷ ds)
      (ap (λ v. record { tag = c.tag; value = v })
      (stored_back (space l) (shape_of l c.tag.type) c.tag.address c.value (bytes_of l cs) (tag_good l h c.tag tags.0).formed
      (object_fits l c.tag.type tags.0.object) fit.0))
      (others_stay c tags.0 (bytes_of l cs) (tags_of cs) tags.1 tags.2 ∙ cells_back cs tags.2 fit.1)

  -- what a typed heap is the view of
  pub record IsViewed (cells : TypedHeap) : Type 0 where
    pub memory : Memory
    pub is : view l memory ≡ cells
    pub tagged : IsWellTagged l memory

  pub heap_is_viewed : (cells : TypedHeap) → IsHeap l (OnTypes cells) → IsViewed cells
  heap_is_viewed cells k = record { memory = memory_of l cells; is = cells_back cells k.0 k.1; tagged = record { bytes = are_bytes cells; tags = k.0 } }
