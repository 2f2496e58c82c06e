-- Offsets step by step.
use Rattle.std.proofs.Common.{◌≡◌, ℕ, ◌+◌, ◌*◌, ◌<◌, ◌≤◌, Bool, true, false, cond, leb, List, [], ◌∷◌, ℤ, pos, ◌+ℤ◌, refl, arith}
use Rattle.std.proofs.lemmas.Bool.{and_parts, and_from, lt-ltb}
use Rattle.std.specs.Prelude.{Option, Some, None}
use Rattle.std.specs.Option.{option_map}
use Rattle.c_values.specs.Types.{CType, Struct, Array}
use Rattle.c_values.specs.Name.{Name}
use Rattle.c_values.specs.Layout.{Layout, IsLayout, Shape, Incomplete, Row, type_of, shape_of, size_of, is_complete, is_object, largest_size}
use Rattle.c_values.specs.Path.{Step, Field, Index, Spot, spot, step_spot, step_in_range, in_range, spot_offset, further, offset_of}
use Rattle.c_values.specs.CodePartOf.{IsPart}
use Rattle.c_values.proofs.Laid.{shape_type}
use Rattle.c_values.proofs.Parts.{part_of, formed_complete}

either_none : (b : Bool) (o : Option ℤ) → o ≡ None → cond b o None ≡ None
either_none true o e = e
either_none false o e = refl

-- a step that leads nowhere
pub nowhere : (l : Layout) (t : CType) (p : Step) (path : List Step) → step_spot (shape_of l t) p ≡ None → offset_of l t (p ∷ path) ≡ None
nowhere l t p path e = either_none (in_range (shape_of l t) (p ∷ path)) (spot_offset (spot (shape_of l t) (p ∷ path))) (rw e refl)

-- an index past the end
pub past_the_end : (l : Layout) (t : CType) (p : Step) (path : List Step) → step_in_range (shape_of l t) p ≡ false → offset_of l t (p ∷ path) ≡ None
past_the_end l t p path e = rw e refl

moved : (o : ℤ) (b : Bool) (r : Option Spot) → cond b (spot_offset (further o r)) None ≡ option_map (λ d. o +ℤ d) (cond b (spot_offset r) None)
moved o true None = refl
moved _ _ _ = refl

one_step : (s : Shape) (p : Step) (o : ℕ) (s' : Shape) → step_spot s p ≡ Some (record { offset = pos o; shape = s' }) → spot s (p ∷ []) ≡ Some (record { offset = pos (o + 0); shape = s' })
one_step s p o s' e = rw e refl

one_in_range : (s : Shape) (p : Step) (q : Spot) → step_in_range s p ≡ true → step_spot s p ≡ Some q → in_range s (p ∷ []) ≡ true
one_in_range s p q r e = rw (r, e) refl

small_part : (o m n k : ℕ) → o + m ≤ n → leb n k ≡ true → leb m k ≡ true
small_part o m n k h e = grind arith

pub same_number : (m n : ℕ) → pos m ≡ pos n → m ≡ n
same_number m n h = cc

-- a step that leads to a part
pub to_part : (l : Layout) (t : CType) (p : Step) (o : ℕ) (u : CType) → IsLayout l → is_object l t ≡ true → step_in_range (shape_of l t) p ≡ true →
    step_spot (shape_of l t) p ≡ Some (record { offset = pos o; shape = shape_of l u }) → IsPart l t p o u
to_part l t p o u h object r e =
    let whole = and_parts (is_complete (shape_of l t)) (leb (size_of l t) largest_size) object in
    let q : Spot = record { offset = pos (o + 0); shape = shape_of l u } in
    let part = part_of l t (p ∷ []) q h whole.0 (one_in_range (shape_of l t) p (record { offset = pos o; shape = shape_of l u }) r e) (one_step (shape_of l t) p o (shape_of l u) e) in
    let at : o + 0 ≡ part.at = same_number (o + 0) part.at part.offset in
    let within : o + size_of l u ≤ size_of l t = omega (arith, part.within.ends) in
    record {
      object = and_from (is_complete (shape_of l u)) (leb (size_of l u) largest_size) (formed_complete (shape_of l u) part.within.formed) (small_part o (size_of l u) (size_of l t) largest_size within whole.1);
      within = within;
      further = λ path. rw (r, e) (moved (pos o) (in_range (shape_of l u) path) (spot (shape_of l u) path));
    }

pub to_element : (l : Layout) (u : CType) (n i : ℕ) → IsLayout l → is_object l (Array u n) ≡ true → i < n → IsPart l (Array u n) (Index (pos i)) (i * size_of l u) u
to_element l u n i h object small = to_part l (Array u n) (Index (pos i)) (i * size_of l u) u h object (lt-ltb i n small) refl

field_in_range : (s : Shape) (k : ℕ) → step_in_range s (Field k) ≡ true
field_in_range Incomplete k = refl
field_in_range _ _ = refl

pub to_member : (l : Layout) (x : Name) (k o : ℕ) (u : CType) → IsLayout l → is_object l (Struct x) ≡ true →
    step_spot (shape_of l (Struct x)) (Field k) ≡ Some (record { offset = pos o; shape = shape_of l u }) → IsPart l (Struct x) (Field k) o u
to_member l x k o u h object e = to_part l (Struct x) (Field k) o u h object (field_in_range (shape_of l (Struct x)) k) e

pub no_element : (s : Shape) (x : Name) (i : ℤ) → type_of s ≡ Struct x → step_spot s (Index i) ≡ None
no_element (Row e' n) x i e = absurd cc
no_element _ _ _ _ = refl

-- a struct has no elements
pub struct_index : (l : Layout) (x : Name) (i : ℤ) (path : List Step) → IsLayout l → is_object l (Struct x) ≡ true → offset_of l (Struct x) (Index i ∷ path) ≡ None
struct_index l x i path h object =
    nowhere l (Struct x) (Index i) path
    (no_element (shape_of l (Struct x)) x i (shape_type l h (Struct x) (and_parts (is_complete (shape_of l (Struct x))) (leb (size_of l (Struct x)) largest_size) object).0))
