-- Heaps that can be, and what can be asked of them at places that were looked up.
use Rattle.std.proofs.Common.{◌≡◌, ℕ, ◌^◌, true, List, [], Option, Some, None, Result, Ok, Err, IfOk, pos, refl, sym, subst}
use Rattle.std.proofs.lemmas.Bool.{false≢true}
use Rattle.std.proofs.lemmas.Nat.{pow_pos, mod_below}
use Rattle.std.specs.Prelude.{IsSomeAnd, OnOk, OnErr}
use Rattle.c_values.specs.Types.{CType, Integer, Ptr}
use Rattle.c_values.specs.Word.{word}
use Rattle.c_values.specs.Value.{Value, Bits}
use Rattle.c_values.specs.Layout.{Layout, IsLayout, shape_of, is_object, is_scalar, scalar_width}
use Rattle.c_values.specs.Path.{Spot, Step, spot, HasShape}
use Rattle.c_memory.specs.Memory.{Memory}
use Rattle.c_memory.specs.Tags.{AreTags, IsWellTagged}
use Rattle.c_memory.specs.TypedHeap.{view}
use Rattle.c_memory.specs.Heap.{Heap, OnTypes, IsHeap, read_heap, write_heap}
use Rattle.c_memory.proofs.Objects.{object_complete}
use Rattle.c_memory.proofs.Cells.{tags_viewed, view_fits}
use Rattle.typed_heap.specs.CodeCells.{cells_of, typed_content}
use Rattle.typed_heap.specs.declared.heap.TypedHeap as T
use Rattle.typed_heap.proofs.Typed.{shape_at}
use Rattle.typed_heap.proofs.Kept.{read_shaped, heap_kept}

pub view_is : (l : Layout) (m : Memory) → IsLayout l → IsWellTagged l m → IsHeap l (OnTypes (view l m))
view_is l m h tagged = (subst (λ ts. AreTags l ts) (sym (tags_viewed l m.bytes m.tags)) tagged.tags, view_fits l h m.bytes tagged.bytes m.tags tagged.tags)

pub heap_viewed : {E : Type 0} (l : Layout) (m : Memory) (r : Result T.TypedHeap E) → IsLayout l → IsWellTagged l m → IfOk r (λ cells. cells_of cells ≡ view l m) → IfOk r (λ cells. IsHeap l (typed_content cells))
heap_viewed l m (Ok cells) h tagged e = subst (λ cs. IsHeap l (OnTypes cs)) (sym e) (view_is l m h tagged)
heap_viewed l m (Err e) h tagged k = tt

word_fits : (l : Layout) (u : CType) (n : ℕ) → is_scalar u ≡ true → HasShape (shape_of l u) (Bits (word (scalar_width l.target u) (pos n)))
word_fits l (Integer i) n k = record { has_width = refl; fits = mod_below n (2 ^ scalar_width l.target (Integer i)) (pow_pos (scalar_width l.target (Integer i))) }
word_fits l (Ptr t) n k = record { has_width = refl; fits = mod_below n (2 ^ scalar_width l.target (Ptr t)) (pow_pos (scalar_width l.target (Ptr t))) }
word_fits _ _ _ k = absurd (false≢true k)

-- a word of its width is a value of it
pub place_word : (l : Layout) (u : CType) (o : Option Spot) (width n : ℕ) → Some (shape_of l u) ≡ shape_at o → is_scalar u ≡ true → width ≡ scalar_width l.target u → IsSomeAnd o (λ q. HasShape q.shape (Bits (word width (pos n))))
place_word l u None width n e k w = absurd cc
place_word l u (Some q) width n e k w =
    let same : shape_of l u ≡ q.shape = cc in
    subst (λ s. HasShape s (Bits (word width (pos n)))) same (subst (λ m. HasShape (shape_of l u) (Bits (word m (pos n)))) (sym w) (word_fits l u n k))

pub written : (l : Layout) (heap : Heap) (t : CType) (a : ℕ) (path : List Step) (v : Value) → IsLayout l → IsHeap l heap → is_object l t ≡ true → IsSomeAnd (spot (shape_of l t) path) (λ q. HasShape q.shape v) → IsHeap l (write_heap l heap t a path v)
written l heap t a path v h is object some = by_spot (spot (shape_of l t) path) refl some
  where
    by_spot : (o : Option Spot) → spot (shape_of l t) path ≡ o → IsSomeAnd o (λ q. HasShape q.shape v) → IsHeap l (write_heap l heap t a path v)
    by_spot None e k = absurd k
    by_spot (Some q) e k = heap_kept l h t a path q (object_complete l t object) e v k heap is

-- what was read of a type can be written to a place of the type
pub whole_read : (l : Layout) (heap : Heap) (t : CType) (a : ℕ) (v : Value) → IsLayout l → IsHeap l heap → is_object l t ≡ true → v ≡ read_heap l heap t a [] → HasShape (shape_of l t) v
whole_read l heap t a v h is object e = subst (λ w. HasShape (shape_of l t) w) (sym e) (read_shaped l h t a [] (record { offset = pos 0; shape = shape_of l t }) (object_complete l t object) refl heap is)

-- after a write that may be refused
pub kept : {R E : Type 0} (l : Layout) (old new w : Heap) (r : Result R E) → OnOk r (new ≡ w) → OnErr r (new ≡ old) → IsHeap l old → IsHeap l w → IsHeap l new
kept l old new w (Ok x) a b h k = subst (λ m. IsHeap l m) (sym a) k
kept l old new w (Err e) a b h k = subst (λ m. IsHeap l m) (sym b) h
