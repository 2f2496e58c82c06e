-- A heap of bytes that can be stays one when it is written, and what it has of a type is of that type.
use Rattle.std.proofs.Common.{◌≡◌, ℕ, true, List, [], ◌∷◌, ◌++◌, ◌∙◌, map, ap, Option, Some, None, Result, Ok, Err, pos, sym, subst, slice_get}
use Rattle.std.proofs.lemmas.Option.{slice_get_within, get_or_from_slice_get}
use Rattle.std.proofs.lemmas.List.{map-append}
use Rattle.std.proofs.lemmas.List.Elements.{All-get_or, All-push}
use Rattle.std.specs.Prelude.{All, OnOk, OnErr}
use Rattle.c_values.specs.Types.{CType}
use Rattle.c_values.specs.Value.{Value}
use Rattle.c_values.specs.Layout.{Layout, IsLayout, shape_of, space, is_object}
use Rattle.c_values.specs.Path.{Step, Spot, spot, HasShape}
use Rattle.c_values.proofs.Laid.{shape_good}
use Rattle.c_memory.specs.Memory.{Memory, AreBytes, address_at, store_spot}
use Rattle.c_memory.specs.Heap.{Heap, OnBytes, IsHeap, read_heap, write_heap}
use Rattle.c_memory.proofs.Objects.{object_complete}
use Rattle.c_memory.proofs.Loaded.{load_shaped, store_bytes}

pub spot_bytes : (space a : ℕ) (o : Option Spot) (v : Value) (bytes : ℕ → ℕ) → AreBytes bytes → AreBytes (store_spot space a o v bytes)
spot_bytes space a None v bytes known = known
spot_bytes space a (Some q) v bytes known = store_bytes space q.shape (address_at space a q.offset) v bytes known

pub written : (l : Layout) (m : Memory) (t : CType) (a : ℕ) (path : List Step) (v : Value) → IsHeap l (OnBytes m) → IsHeap l (write_heap l (OnBytes m) t a path v)
written l m t a path v is = record { bytes = spot_bytes (space l) a (spot (shape_of l t) path) v m.bytes is.bytes; tags = is.tags }

-- after a write that may be refused
pub kept : {R E : Type 0} (l : Layout) (m : Memory) (new : Heap) (t : CType) (a : ℕ) (path : List Step) (v : Value) (r : Result R E) →
    OnOk r (new ≡ write_heap l (OnBytes m) t a path v) → OnErr r (new ≡ OnBytes m) → IsHeap l (OnBytes m) → IsHeap l new
kept l m new t a path v (Ok x) ok err is = subst (λ h. IsHeap l h) (sym ok) (written l m t a path v is)
kept l m new t a path v (Err e) ok err is = subst (λ h. IsHeap l h) (sym err) is

-- what was read of a type can be written to a place of the type
pub whole_read : (l : Layout) (m : Memory) (t : CType) (a : ℕ) (v : Value) → IsLayout l → IsHeap l (OnBytes m) → is_object l t ≡ true → v ≡ read_heap l (OnBytes m) t a [] → HasShape (shape_of l t) v
whole_read l m t a v h is object e =
    subst (λ w. HasShape (shape_of l t) w) (sym e) (load_shaped (space l) m.bytes is.bytes (shape_of l t) (address_at (space l) a (pos 0)) (shape_good l h t (object_complete l t object)).formed)

pub item : {X : Type 0} (P : X → Type 0) (xs : List X) (k : ℕ) (x : X) → All P xs → slice_get xs k ≡ Some x → P x
item P xs k x all e = subst P (get_or_from_slice_get xs k x x e) (All-get_or P xs k x (slice_get_within xs k x e) all)

-- one more of a list whose items pass, as they are seen
pub one_more : {X Y : Type 0} (P : Y → Type 0) (f : X → Y) (xs ys : List X) (x : X) → All P (map f xs) → P (f x) → ys ≡ xs ++ x ∷ [] → All P (map f ys)
one_more P f xs ys x all one e =
    subst (λ zs. All P zs) (sym (ap (map f) e ∙ map-append f xs (x ∷ []))) (All-push P (map f xs) (f x) all one)
