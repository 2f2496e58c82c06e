-- A step into an object.
use Rattle.std.proofs.Common.{◌≡◌, ℕ, ◌*◌, ◌<◌, true, leb, ℤ, pos, refl}
use Rattle.std.proofs.lemmas.Bool.{and_parts, lt-ltb}
use Rattle.std.specs.Prelude.{Some, None}
use Rattle.c_values.specs.Name.{Name}
use Rattle.c_values.specs.Types.{CType, Struct, Array}
use Rattle.c_values.specs.Layout.{Layout, IsLayout, Shape, Row, shape_of, type_of, is_object, is_complete, size_of, largest_size}
use Rattle.c_values.specs.Path.{Index}
use Rattle.c_values.specs.StepInto.{step_into}
use Rattle.c_values.proofs.Laid.{shape_type}

no_element : (s : Shape) (x : Name) (i : ℤ) → type_of s ≡ Struct x → step_into s (Index i) ≡ None
no_element (Row e' n) x i e = absurd cc
no_element _ _ _ _ = refl

-- a struct has no elements
pub into_struct : (l : Layout) (x : Name) (i : ℤ) → IsLayout l → is_object l (Struct x) ≡ true → step_into (shape_of l (Struct x)) (Index i) ≡ None
into_struct l x i h object =
    no_element (shape_of l (Struct x)) x i (shape_type l h (Struct x) (and_parts (is_complete (shape_of l (Struct x))) (leb (size_of l (Struct x)) largest_size) object).0)

-- an element of an array
pub into_array : (l : Layout) (u : CType) (n i m : ℕ) → i < n → m ≡ size_of l u →
    Some (record { offset = pos (i * m); shape = shape_of l u }) ≡ step_into (shape_of l (Array u n)) (Index (pos i))
into_array l u n i m h e = rw (e, lt-ltb i n h) refl
