-- Cells that are made one after the other.
use Rattle.std.proofs.Common.{◌≡◌, ℕ, ◌+◌, ◌<◌, ◌%◌, List, [], ◌∷◌, ◌++◌, length, map, get_or, slice_get, Some, add-zero, refl, sym, ap, ap₂, ◌∙◌, subst, arith}
use Rattle.std.proofs.Math.Nat.{mod-mod}
use Rattle.std.proofs.lemmas.Option.{slice_get-map, slice_get-get_or}
use Rattle.std.specs.Option.{option_map}
use Rattle.std.proofs.lemmas.List.{map_push}
use Rattle.c_values.specs.declared.types.CType as C
use Rattle.c_memory.specs.CodeTag.{tag_of}
use Rattle.c_values.specs.declared.values.Value as V
use Rattle.c_values.specs.Layout.{Layout, IsLayout, shape_of, space}
use Rattle.c_values.specs.CodeValue.{value_of}
use Rattle.c_memory.specs.Memory.{Tag, load, load_at}
use Rattle.c_memory.specs.Tags.{IsTag, AreTags}
use Rattle.c_memory.proofs.Neighbours.{tag_at}
use Rattle.c_memory.specs.TypedHeap.{Cell}
use Rattle.c_memory.proofs.Covered.{pointer_parts}
use Rattle.c_memory.proofs.Rows.{object_some}
use Rattle.c_memory.proofs.Wrapped.{load_wrapped}
use Rattle.typed_heap.specs.CodeCells.{cells_from}

cells_push : (ts : List Tag) (vs : List V.Value) (t : Tag) (v : V.Value) → length vs ≡ length ts → cells_from (ts ++ t ∷ []) (vs ++ v ∷ []) ≡ cells_from ts vs ++ record { tag = t; value = value_of v } ∷ []
cells_push [] [] t v e = refl
cells_push [] (w ∷ ws) t v e = absurd (omega arith)
cells_push (u ∷ us) [] t v e = absurd (omega arith)
cells_push (u ∷ us) (w ∷ ws) t v e = ap (λ cs. record { tag = u; value = value_of w } ∷ cs) (cells_push us ws t v (omega arith))

abbrev pub cell_of : Layout → (ℕ → ℕ) → Tag → Cell
cell_of l bytes t = record { tag = t; value = load (space l) bytes (shape_of l t.type) t.address }

pub cell_made : (l : Layout) (bytes : ℕ → ℕ) (ts : List Tag) (vs : List V.Value) (t : Tag) (v : V.Value) → length vs ≡ length ts → cells_from ts vs ≡ map (cell_of l bytes) ts →
    value_of v ≡ load (space l) bytes (shape_of l t.type) t.address → cells_from (ts ++ t ∷ []) (vs ++ v ∷ []) ≡ map (cell_of l bytes) (ts ++ t ∷ [])
cell_made l bytes ts vs t v n before is =
    cells_push ts vs t v n
    ∙ ap₂ (λ cs w. cs ++ record { tag = t; value = w } ∷ []) before is
    ∙ sym (map_push (cell_of l bytes) ts t)

-- the tag at a place
pub tag_of_item : (l : Layout) (xs : List (ℕ × C.CType)) (ts : List Tag) (k : ℕ) (x : ℕ × C.CType) → map tag_of xs ≡ ts → k < length xs → x ≡ get_or xs k x → AreTags l ts → IsTag l (tag_of x)
tag_of_item l xs ts k x same lt is tags =
    tag_at l ts k (tag_of x) tags
    (subst (λ ys. slice_get ys k ≡ Some (tag_of x)) same (slice_get-map tag_of xs k ∙ ap (option_map tag_of) (slice_get-get_or xs k x lt ∙ ap Some (sym is))))

-- is in the space
pub tag_in_space : (l : Layout) (t : Tag) → IsLayout l → IsTag l t → t.address < space l
tag_in_space l t h tag =
    let p = pointer_parts l t.type t.address tag.placed in
    let some = object_some l t.type h tag.object in
    omega (arith, p.fits, some)

-- a load at the root itself
pub root_loaded : (l : Layout) (bytes : ℕ → ℕ) (t : Tag) → load_at (space l) bytes (shape_of l t.type) t.address [] ≡ load (space l) bytes (shape_of l t.type) t.address
root_loaded l bytes t =
    load_wrapped (space l) bytes (shape_of l t.type) ((t.address + 0) % space l) t.address
    (mod-mod (t.address + 0) (space l) ∙ ap (λ a. a % space l) (add-zero t.address))
