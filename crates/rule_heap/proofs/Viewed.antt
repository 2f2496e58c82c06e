-- The two ways in which states are alike: they are the same; or the left one has bytes, the right one the typed heap that views
-- them, and the bytes outside of all footprints are those of the memory where it began.
use Rattle.std.proofs.Common.{◌≡◌, ℕ, zero, suc, ◌+◌, ◌<◌, ◌≤◌, ◌⊎◌, inl, inr, true, List, [], ◌∷◌, map, Some, Contains, refl, sym, ap, ◌∙◌, subst, arith}
use Rattle.std.proofs.lemmas.Bool.{cases_lt}
use Rattle.c_values.specs.Types.{CType}
use Rattle.c_values.specs.Value.{Value}
use Rattle.c_values.specs.Layout.{Layout, IsLayout, shape_of, size_of, space}
use Rattle.c_values.specs.Path.{Step, Spot, spot, in_range, HasShape}
use Rattle.c_memory.specs.Memory.{Tag, Memory, store_at}
use Rattle.c_memory.specs.Tags.{AreTags, IsWellTagged, is_covered}
use Rattle.c_memory.specs.TypedHeap.{view}
use Rattle.c_memory.specs.Footprint.{InFootprint, KeepsMemory}
use Rattle.c_memory.specs.Heap.{Heap, OnBytes, OnTypes, heap_tags, is_tagged, read_heap, write_heap, IsHeap}
use Rattle.c_memory.proofs.Cells.{tags_viewed}
use Rattle.c_memory.proofs.Loaded.{store_bytes}
use Rattle.c_memory.proofs.Views.{cell_at, address, reads_agree, load_here, store_here, writes_agree}
use Rattle.c_memory.proofs.Places.{store_in_objects}
use Rattle.c_memory.proofs.Covered.{contains_nothing}
use Rattle.expression_lang.specs.Evaluation.{State}
use Rattle.expression_lang.specs.States.{state_with}
use Rattle.program_facts.proofs.KeepsTags.{heap_written}
use Rattle.rule_heap.proofs.Alike.{AreAlike}

-- the same

pub record IsSame (l : Layout) (s s' : State) : Type 0 where
  pub same : s' ≡ s
  pub placed : AreTags l (heap_tags s.heap)

pub heap_placed : (l : Layout) (h : Heap) → IsHeap l h → AreTags l (heap_tags h)
heap_placed l (OnBytes m) h = h.tags
heap_placed l (OnTypes cells) h = h.0

pub same_alike : (l : Layout) → AreAlike l (IsSame l)
same_alike l = record {
  globals = λ s s' h. ap (λ x. x.globals) h.same;
  tags = λ s s' h. ap (λ x. heap_tags x.heap) h.same;
  placed = λ s s' h. h.placed;
  reads = λ s s' h t a path q covered range leads. ap (λ x. read_heap l x.heap t a path) h.same;
  writes = λ s s' h t a path q v covered range leads shaped. record {
    same = ap (λ x. state_with (write_heap l x.heap t a path v) x.globals) h.same;
    placed = subst (λ ts. AreTags l ts) (sym (heap_written l s.heap t a path v)) h.placed;
  };
  sets = λ s s' h globals. record { same = ap (λ x. state_with x.heap globals) h.same; placed = h.placed };
}

-- bytes and their view

footprint_of : (l : Layout) (ts : List Tag) (u : Tag) (x : ℕ) → Contains ts u → (u.address ≤ x) × (x < u.address + size_of l u.type) → InFootprint l ts x
footprint_of l [] u x c h = absurd (contains_nothing u c)
footprint_of l (t ∷ ts) u x (zero, lt, e) h = inl (subst (λ (w : Tag). (w.address ≤ x) × (x < w.address + size_of l w.type)) (sym e) h)
footprint_of l (t ∷ ts) u x (suc k, lt, e) h = inr (footprint_of l ts u x (k, omega arith, e) h)

outside : (l : Layout) (ts : List Tag) (x : ℕ) → (InFootprint l ts x → ⊥) → (u : Tag) → Contains ts u → (x < u.address) ⊎ (u.address + size_of l u.type ≤ x)
outside l ts x h u c = by_order u.address (size_of l u.type) (λ k. h (footprint_of l ts u x c k))
  where
    by_order : (a n : ℕ) → ((a ≤ x) × (x < a + n) → ⊥) → (x < a) ⊎ (a + n ≤ x)
    by_order a n none = elim (cases_lt x a) [ inl p ↦ inl p | inr p ↦ elim (cases_lt x (a + n)) [ inl q ↦ absurd (none (p, q)) | inr q ↦ inr q ] ]

pub keeps_itself : (l : Layout) (m : Memory) → KeepsMemory l true m m
keeps_itself l m = record { tags = refl; bytes = λ h x n. refl }

pub keeps_on : (l : Layout) (a b c : Memory) → KeepsMemory l true a b → KeepsMemory l true b c → KeepsMemory l true a c
keeps_on l a b c h k = record { tags = k.tags ∙ h.tags; bytes = λ e x n. k.bytes e x (subst (λ ts. InFootprint l ts x → ⊥) (sym h.tags) n) ∙ h.bytes e x n }

-- the right state has the view of the left one's memory
pub record IsViewed (l : Layout) (start : Memory) (s s' : State) : Type 0 where
  pub memory : Memory
  pub tagged : IsWellTagged l memory
  pub bytes : s.heap ≡ OnBytes memory
  pub types : s'.heap ≡ OnTypes (view l memory)
  pub globals : s'.globals ≡ s.globals
  pub keeps : KeepsMemory l true start memory

module _ (l : Layout) (laid : IsLayout l) (start : Memory) where
  abbrev written : Memory → CType → ℕ → List Step → Value → Memory
  written m t a path v = record { bytes = store_at (space l) (shape_of l t) a path v m.bytes; tags = m.tags }

  module _ (m : Memory) (tagged : IsWellTagged l m) (t : CType) (a : ℕ) (path : List Step) (q : Spot) (covered : is_covered l m.tags t a ≡ true) (range : in_range (shape_of l t) path ≡ true)
      (leads : spot (shape_of l t) path ≡ Some q) where
    read_viewed : read_heap l (OnTypes (view l m)) t a path ≡ read_heap l (OnBytes m) t a path
    read_viewed = reads_agree l laid t a path q range leads m.bytes m.tags tagged.tags covered ∙ sym (load_here l laid t a path q range leads m.bytes)

    write_viewed : (v : Value) → HasShape q.shape v → write_heap l (OnTypes (view l m)) t a path v ≡ OnTypes (view l (written m t a path v))
    write_viewed v shaped =
        sym (ap OnTypes (ap (λ bytes. map (cell_at l bytes) m.tags) (store_here l laid t a path q range leads v m.bytes)
        ∙ writes_agree l laid t a path q range leads v shaped m.bytes m.tags tagged.tags covered))

    write_tagged : (v : Value) → IsWellTagged l (written m t a path v)
    write_tagged v = record { bytes = subst (λ bs. (x : ℕ) → bs x < 256) (sym (store_here l laid t a path q range leads v m.bytes)) (store_bytes (space l) q.shape (address l laid t a path q range leads) v m.bytes tagged.bytes); tags = tagged.tags }

    write_keeps : (v : Value) → KeepsMemory l true m (written m t a path v)
    write_keeps v = record { tags = refl; bytes = λ e x n. store_in_objects l laid t a path q range leads v m.bytes m.tags x tagged.tags covered (outside l m.tags x n) }

  covered_there : (s : State) (m : Memory) (t : CType) (a : ℕ) → s.heap ≡ OnBytes m → is_tagged l s.heap t a ≡ true → is_covered l m.tags t a ≡ true
  covered_there s m t a e h = subst (λ x. is_tagged l x t a ≡ true) e h

  pub viewed_alike : AreAlike l (IsViewed l start)
  viewed_alike = record {
    globals = λ s s' h. h.globals;
    tags = λ s s' h. ap heap_tags h.types ∙ tags_viewed l h.memory.bytes h.memory.tags ∙ sym (ap heap_tags h.bytes);
    placed = λ s s' h. subst (λ x. AreTags l (heap_tags x)) (sym h.bytes) h.tagged.tags;
    reads = λ s s' h t a path q covered range leads.
        ap (λ x. read_heap l x t a path) h.types ∙ read_viewed h.memory h.tagged t a path q (covered_there s h.memory t a h.bytes covered) range leads ∙ sym (ap (λ x. read_heap l x t a path) h.bytes);
    writes = λ s s' h t a path q v covered range leads shaped.
        let there = covered_there s h.memory t a h.bytes covered in
        record {
          memory = written h.memory t a path v;
          tagged = write_tagged h.memory h.tagged t a path q there range leads v;
          bytes = ap (λ x. write_heap l x t a path v) h.bytes;
          types = ap (λ x. write_heap l x t a path v) h.types ∙ write_viewed h.memory h.tagged t a path q there range leads v shaped;
          globals = h.globals;
          keeps = keeps_on l start h.memory (written h.memory t a path v) h.keeps (write_keeps h.memory h.tagged t a path q there range leads v);
        };
    sets = λ s s' h globals. record { memory = h.memory; tagged = h.tagged; bytes = h.bytes; types = h.types; globals = refl; keeps = h.keeps };
  }
