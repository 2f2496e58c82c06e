-- A read in range gives a value of the place's shape, on either heap and also where no tag covers the root.
use Rattle.std.proofs.Common.{◌≡◌, ℕ, ◌^◌, ◌<◌, nat_lt, true, List, [], ◌∷◌, Option, Some, None, pos, refl, sym, subst}
use Rattle.std.proofs.lemmas.Bool.{and_parts}
use Rattle.std.proofs.lemmas.Nat.{pow_pos, mod_below}
use Rattle.c_values.specs.Types.{CType}
use Rattle.c_values.specs.Value.{Value, Bits, Number, Truth, Parts, count, part}
use Rattle.c_values.specs.Layout.{Layout, IsLayout, Shape, Incomplete, Scalar, Record, Row, Fields, no_fields, field, shape_of, space, is_complete, are_complete}
use Rattle.c_values.specs.Path.{Step, Field, Index, Spot, spot, in_range, sel, zeros, member_zeros, HasShape, AreMembers}
use Rattle.c_values.proofs.Formed.{IsFormed}
use Rattle.c_values.proofs.Leads.{Leads, ends, by_member, by_element}
use Rattle.c_values.proofs.Parts.{part_of, formed_complete}
use Rattle.c_values.proofs.Shaped.{members_count, member_shaped, elements_count, element_shaped, placed_field, placed_index, sel_step, copies_shaped}
use Rattle.c_memory.specs.Memory.{load_spot, address_at}
use Rattle.c_memory.specs.Tags.{AreTags, path_from}
use Rattle.c_memory.specs.TypedHeap.{TypedHeap, tags_of, zeros_spot, cell_part, read_cells}
use Rattle.c_memory.specs.Heap.{Heap, OnBytes, OnTypes, CellsFit, IsHeap, read_heap}
use Rattle.c_memory.proofs.Loaded.{load_shaped}
use Rattle.c_memory.proofs.Views.{place_in}

-- the part of a value to which a path leads
pub sel_shaped : {s s' : Shape} {ps : List Step} {d : ℕ} (v : Value) → HasShape s v → Leads s ps d s' → HasShape s' (sel v ps)
sel_shaped v h ends = h
sel_shaped (Parts vs) h (by_member {k} {s' = s₁} {ps} m p) =
    subst (HasShape s₁) (sym (sel_step vs (Field k) ps k (placed_field k (count vs) (members_count vs h m)))) (sel_shaped (part vs k) (member_shaped vs h m) p)
sel_shaped (Bits w) h (by_member m p) = absurd h
sel_shaped (Number z) h (by_member m p) = absurd h
sel_shaped (Truth b) h (by_member m p) = absurd h
sel_shaped (Parts vs) h (by_element {e} {s' = s₁} {n} {i} {ps} lt p) =
    subst (HasShape s₁) (sym (sel_step vs (Index (pos i)) ps i (placed_index i (count vs) (subst (λ c. i < c) (sym (elements_count (λ w. HasShape e w) n vs h)) lt))))
    (sel_shaped (part vs i) (element_shaped (λ w. HasShape e w) n i vs h lt) p)
sel_shaped (Bits w) h (by_element lt p) = absurd h
sel_shaped (Number z) h (by_element lt p) = absurd h
sel_shaped (Truth b) h (by_element lt p) = absurd h

mutual
  zeros_shaped : (s : Shape) → is_complete s ≡ true → HasShape s (zeros s)
  zeros_shaped Incomplete h = absurd cc
  zeros_shaped (Scalar t width) h = record { has_width = refl; fits = mod_below 0 (2 ^ width) (pow_pos width) }
  zeros_shaped (Record x n align fs) h = members_shaped fs h
  zeros_shaped (Row e n) h = copies_shaped (λ w. HasShape e w) n (zeros e) (zeros_shaped e (and_parts (nat_lt 0 n) (is_complete e) h).1)

  members_shaped : (fs : Fields) → are_complete fs ≡ true → AreMembers fs (member_zeros fs)
  members_shaped no_fields h = tt
  members_shaped (field at s fs) h = let p = and_parts (is_complete s) (are_complete fs) h in (zeros_shaped s p.0, members_shaped fs p.1)

module _ (l : Layout) (h : IsLayout l) (t : CType) (complete : is_complete (shape_of l t) ≡ true) (a : ℕ) (path : List Step) (q : Spot) (range : in_range (shape_of l t) path ≡ true) (at_end : spot (shape_of l t) path ≡ Some q) where
  end_formed : IsFormed q.shape
  end_formed = (part_of l t path q h complete range at_end).within.formed

  cells_read : (cells : TypedHeap) → AreTags l (tags_of cells) → CellsFit l cells → HasShape q.shape (read_cells l cells t a path)
  cells_read [] tags fit = subst (λ o. HasShape q.shape (zeros_spot o)) (sym at_end) (zeros_shaped q.shape (formed_complete q.shape end_formed))
  cells_read (c ∷ cs) tags fit = by_path (cells_read cs tags.2 fit.1) (path_from l c.tag t a) refl
    where
      by_path : HasShape q.shape (read_cells l cs t a path) → (o : Option (List Step)) → path_from l c.tag t a ≡ o → HasShape q.shape (cell_part c o path (read_cells l cs t a path))
      by_path rest None k = rest
      by_path rest (Some root) k = sel_shaped c.value fit.0 (place_in l h t a path q range at_end c.tag root tags.0 k).leads

  pub read_shaped : (heap : Heap) → IsHeap l heap → HasShape q.shape (read_heap l heap t a path)
  read_shaped (OnBytes m) is =
      subst (λ o. HasShape q.shape (load_spot (space l) m.bytes a o)) (sym at_end) (load_shaped (space l) m.bytes is.bytes q.shape (address_at (space l) a q.offset) end_formed)
  read_shaped (OnTypes cells) is = cells_read cells is.0 is.1
