-- Typed heaps and memory agree at covered roots.
use Rattle.std.proofs.Common.{◌≡◌, ℕ, ◌+◌, ◌%◌, ◌<◌, ◌≤◌, inl, inr, true, ◌||◌, List, [], ◌∷◌, ◌++◌, map, Option, Some, None, is_some, pos, refl, sym, ap, ap₂, ◌∙◌, arith, add_assoc, mod-eq_of_lt}
use Rattle.std.proofs.lemmas.Bool.{false≢true}
use Rattle.c_values.specs.Types.{CType}
use Rattle.c_values.specs.Value.{Value}
use Rattle.c_values.specs.Layout.{Layout, IsLayout, size, shape_of, size_of, align_of, space}
use Rattle.c_values.specs.Path.{Step, Spot, spot, in_range, HasShape}
use Rattle.c_values.proofs.Formed.{size_some}
use Rattle.c_values.proofs.Leads.{Leads}
use Rattle.c_values.proofs.Geometry.{IsWithin, leads_within}
use Rattle.c_values.proofs.Parts.{formed_complete, part_of}
use Rattle.c_memory.specs.Memory.{Tag, load, load_at, load_spot, store, store_at, store_spot, address_at}
use Rattle.c_memory.specs.Tags.{IsTag, AreApart, ApartFrom, AreTags, path_from, is_covered}
use Rattle.c_memory.specs.TypedHeap.{Cell, cell_part, read_cells, with_cell_part, write_cells}
use Rattle.c_memory.proofs.Objects.{object_fits}
use Rattle.c_memory.proofs.Covered.{root_of, tag_good, pointer_parts, covered_tag, apart_from, tag_among}
use Rattle.c_memory.proofs.LoadedParts.{leads_on, sel_loaded}
use Rattle.c_memory.proofs.RoundTrip.{load_same}
use Rattle.c_memory.proofs.Frame.{store_frame, spares}
use Rattle.c_memory.proofs.Modulus.{apart_plain}
use Rattle.c_memory.proofs.StoredParts.{upd_stored}

-- a tag with what lies there
abbrev pub cell_at : Layout → (ℕ → ℕ) → Tag → Cell
cell_at l bytes u = record { tag = u; value = load (space l) bytes (shape_of l u.type) u.address }

-- no wrap: an address in the space
address_plain : (space a d : ℕ) → a + d < space → address_at space a (pos d) ≡ a + d
address_plain space a d h = mod-eq_of_lt h

-- a place at a root and a path, in range
module _ (l : Layout) (h : IsLayout l) (t : CType) (a : ℕ) (path : List Step) (q : Spot) (range : in_range (shape_of l t) path ≡ true) (at_end : spot (shape_of l t) path ≡ Some q) where
  abbrev pub address : ℕ
  address = address_at (space l) a q.offset

  -- within a tag's object
  pub record IsPlaceIn (u : Tag) (root : List Step) : Type 0 where
    pub offset : ℕ
    pub leads : Leads (shape_of l u.type) (root ++ path) offset q.shape
    pub within : IsWithin (align_of l u.type) (size_of l u.type) offset q.shape
    pub plain : address ≡ u.address + offset

  pub place_in : (u : Tag) (root : List Step) → IsTag l u → path_from l u t a ≡ Some root → IsPlaceIn u root
  place_in u root i e =
      let r = root_of l h u t a root i e in
      let p = part_of l t path q h (formed_complete (shape_of l t) r.within.formed) range at_end in
      let leads = leads_on r.leads p.leads in
      let w = leads_within (tag_good l h u i).formed leads in
      let fits : u.address + size_of l u.type ≤ space l = (pointer_parts l u.type u.address i.placed).fits in
      let some : 0 < size q.shape = size_some q.shape w.formed in
      let inside : r.at + p.at + size q.shape ≤ size_of l u.type = w.ends in
      let from : u.address + r.at ≡ a = r.address in
      record {
        offset = r.at + p.at;
        leads = leads;
        within = w;
        plain = ap (λ z. address_at (space l) a z) p.offset ∙ address_plain (space l) a p.at (omega arith) ∙ ap (λ x. x + p.at) (sym from) ∙ add_assoc u.address r.at p.at;
      }

  pub load_here : (bytes : ℕ → ℕ) → load_at (space l) bytes (shape_of l t) a path ≡ load (space l) bytes q.shape address
  load_here bytes = ap (λ o. load_spot (space l) bytes a o) at_end

  pub store_here : (v : Value) (bytes : ℕ → ℕ) → store_at (space l) (shape_of l t) a path v bytes ≡ store (space l) q.shape address v bytes
  store_here v bytes = ap (λ o. store_spot (space l) a o v bytes) at_end

  -- a typed read gives what a load gives
  pub reads_agree : (bytes : ℕ → ℕ) (ts : List Tag) → AreTags l ts → is_covered l ts t a ≡ true → read_cells l (map (cell_at l bytes) ts) t a path ≡ load (space l) bytes q.shape address
  reads_agree bytes [] tags c = absurd (false≢true c)
  reads_agree bytes (u ∷ us) tags c = by_cases (λ k. reads_agree bytes us tags.2 k) (path_from l u t a) refl c
    where
      by_cases : (is_covered l us t a ≡ true → read_cells l (map (cell_at l bytes) us) t a path ≡ load (space l) bytes q.shape address) →
          (o : Option (List Step)) → path_from l u t a ≡ o → (is_some o || is_covered l us t a) ≡ true →
          cell_part (cell_at l bytes u) o path (read_cells l (map (cell_at l bytes) us) t a path) ≡ load (space l) bytes q.shape address
      by_cases rest (Some root) e k = let p = place_in u root tags.0 e in sel_loaded (space l) bytes u.address p.leads ∙ ap (λ b. load (space l) bytes q.shape b) (sym p.plain)
      by_cases rest None e k = rest k

  module _ (v : Value) (shaped : HasShape q.shape v) (bytes : ℕ → ℕ) where
    abbrev pub bytes' : ℕ → ℕ
    bytes' = store (space l) q.shape address v bytes

    -- the object of a tag apart stays
    other_stays : (u w : Tag) (root : List Step) → IsTag l u → IsTag l w → AreApart l u w → path_from l w t a ≡ Some root → cell_at l bytes' u ≡ cell_at l bytes u
    other_stays u w root i j apart e = ap (λ x. record { tag = u; value = x }) (load_same (space l) bytes' bytes (shape_of l u.type) u.address (tag_good l h u i).formed agrees)
      where
        p : IsPlaceIn w root
        p = place_in w root j e

        fits_u : u.address + size_of l u.type ≤ space l
        fits_u = (pointer_parts l u.type u.address i.placed).fits

        fits_w : w.address + size_of l w.type ≤ space l
        fits_w = (pointer_parts l w.type w.address j.placed).fits

        clash : (x y : ℕ) → AreApart l u w → x < size_of l u.type → y < size q.shape → (u.address + x) % space l ≡ (w.address + p.offset + y) % space l → ⊥
        clash x y (inl o) lt less k = apart_plain (space l) (u.address + x) (w.address + p.offset + y) (omega arith) (omega (arith, p.within.ends, fits_w)) k
        clash x y (inr o) lt less k = apart_plain (space l) (w.address + p.offset + y) (u.address + x) (omega (arith, p.within.ends)) (omega (arith, fits_u)) (sym k)

        agrees : (x : ℕ) → x < size_of l u.type → bytes' ((u.address + x) % space l) ≡ bytes ((u.address + x) % space l)
        agrees x lt = store_frame (space l) ((u.address + x) % space l) q.shape address v bytes
            (spares (space l) ((u.address + x) % space l) q.shape address p.within.formed (λ y less k. clash x y apart lt less (sym k ∙ ap (λ b. (b + y) % space l) p.plain)))

    -- all tags behind the one that was written stay
    others_stay : (w : Tag) (root : List Step) (us : List Tag) → IsTag l w → ApartFrom l w us → AreTags l us → path_from l w t a ≡ Some root → map (cell_at l bytes') us ≡ map (cell_at l bytes) us
    others_stay w root [] i apart tags e = refl
    others_stay w root (u ∷ us) i apart tags e = ap₂ (λ c cs. c ∷ cs) (other_stays u w root tags.0 i (turned apart.0) e) (others_stay w root us i apart.1 tags.2 e)
      where
        turned : AreApart l w u → AreApart l u w
        turned (inl o) = inr o
        turned (inr o) = inl o

    -- to write and then view is to view and then write
    pub writes_agree : (ts : List Tag) → AreTags l ts → is_covered l ts t a ≡ true → map (cell_at l bytes') ts ≡ write_cells l (map (cell_at l bytes) ts) t a path v
    writes_agree [] tags c = absurd (false≢true c)
    writes_agree (u ∷ us) tags c = by_cases (λ k. writes_agree us tags.2 k) (path_from l u t a) refl c
      where
        by_cases : (is_covered l us t a ≡ true → map (cell_at l bytes') us ≡ write_cells l (map (cell_at l bytes) us) t a path v) →
            (o : Option (List Step)) → path_from l u t a ≡ o → (is_some o || is_covered l us t a) ≡ true →
            cell_at l bytes' u ∷ map (cell_at l bytes') us ≡ with_cell_part (cell_at l bytes u) o path v (map (cell_at l bytes) us) (write_cells l (map (cell_at l bytes) us) t a path v)
        by_cases rest (Some root) e k =
            let p = place_in u root tags.0 e in
            ap₂ (λ x cs. record { tag = u; value = x } ∷ cs)
            (upd_stored (space l) v bytes u.address address p.plain (tag_good l h u tags.0).formed (object_fits l u.type tags.0.object) shaped p.leads)
            (others_stay u root us tags.0 tags.1 tags.2 e)
        by_cases rest None e k =
            let w = covered_tag l us t a k in
            ap₂ (λ c' cs. c' ∷ cs) (other_stays u w.0 w.2 tags.0 (tag_among l us w.0 tags.2 w.1) (apart_from l u us w.0 tags.1 w.1) w.3) (rest k)
