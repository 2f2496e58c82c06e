-- How types lie in memory (C99 6.7.2.1p12 to p15): a scalar's alignment is its size, a member stands at the least offset
-- that is aligned for it, a struct's alignment is its largest member's, and its size is rounded up to that. By recursion on
-- types, each struct from those before it; the code keeps tables.
use Rattle.std.specs.Prelude.{◌≡◌, ℕ, ◌+◌, ◌-◌, ◌*◌, ◌/◌, ◌^◌, max, nat_lt, nat_le, Bool, true, false, not, ◌&&◌, List, [], ◌∷◌, Option, Some, None, if◌then◌else◌}
use Rattle.c_values.specs.Name.{Name, same_name, with_name, is_among}
use Rattle.c_values.specs.Value.{Value}
use Rattle.c_values.specs.Types.{Target, CType, Integer, Void, Ptr, Struct, Array, width_of, address_width}

pub record Member : Type 0 where
  pub name : Name
  pub type : CType

pub record StructDef : Type 0 where
  pub name : Name
  pub members : List Member

-- the target and the structs that have a body, in the order of their definition
pub record Layout : Type 0 where
  pub target : Target
  pub structs : List StructDef

mutual
  -- a type's shape: the struct names are looked up, the offsets are there
  pub data Shape : Type 0 where
    -- `void`, or a struct without a body
    Incomplete : Shape
    -- a word of this many bits
    Scalar : CType → ℕ → Shape
    -- a struct, with its size, its alignment and its members
    Record : Name → ℕ → ℕ → Fields → Shape
    -- so many elements
    Row : Shape → ℕ → Shape

  pub data Fields : Type 0 where
    no_fields : Fields
    -- a member at an offset
    field : ℕ → Shape → Fields → Fields

-- in bytes
abbrev pub size : Shape → ℕ
size Incomplete = 0
size (Scalar t width) = width / 8
size (Record x bytes align fs) = bytes
size (Row e n) = n * size e

abbrev pub alignment : Shape → ℕ
alignment Incomplete = 1
alignment (Scalar t width) = width / 8
alignment (Record x bytes align fs) = align
alignment (Row e n) = alignment e

abbrev pub type_of : Shape → CType
type_of Incomplete = Void
type_of (Scalar t width) = t
type_of (Record x bytes align fs) = Struct x
type_of (Row e n) = Array (type_of e) n

-- the least multiple of the alignment that is `at` or more
abbrev pub aligned : ℕ → ℕ → ℕ
aligned at align = ((at + (align - 1)) / align) * align

-- the members in order, from this offset on
abbrev pub placed : (CType → Shape) → ℕ → List Member → Fields
placed shape at [] = no_fields
placed shape at (m ∷ ms) =
    let s = shape m.type in
    let offset = aligned at (alignment s) in
    field offset s (placed shape (offset + size s) ms)

abbrev pub end_of : ℕ → Fields → ℕ
end_of at no_fields = at
end_of at (field offset s fs) = end_of (offset + size s) fs

abbrev pub widest : Fields → ℕ
widest no_fields = 1
widest (field offset s fs) = max (alignment s) (widest fs)

abbrev pub struct_shape : (CType → Shape) → StructDef → Shape
struct_shape shape d =
    let fs = placed shape 0 d.members in
    Record d.name (aligned (end_of 0 fs) (widest fs)) (widest fs) fs

-- a type's shape, from the shapes of the structs
abbrev pub shape_from : Target → (Name → Shape) → CType → Shape
shape_from t structs (Integer i) = Scalar (Integer i) (width_of t i)
shape_from t structs Void = Incomplete
shape_from t structs (Ptr u) = Scalar (Ptr u) (address_width t)
shape_from t structs (Struct x) = structs x
shape_from t structs (Array u n) = Row (shape_from t structs u) n

-- each struct from those before it
abbrev pub shapes_after : Target → (Name → Shape) → List StructDef → Name → Shape
shapes_after t structs [] = structs
shapes_after t structs (d ∷ ds) = shapes_after t (with_name d.name (struct_shape (shape_from t structs) d) structs) ds

abbrev pub shape_of : Layout → CType → Shape
shape_of l = shape_from l.target (shapes_after l.target (λ x. Incomplete) l.structs)

abbrev pub size_of : Layout → CType → ℕ
size_of l t = size (shape_of l t)

abbrev pub align_of : Layout → CType → ℕ
align_of l t = alignment (shape_of l t)

-- addresses are below this number
abbrev pub space : Layout → ℕ
space l = 2 ^ address_width l.target

abbrev mutual
  -- a complete object type: no void, no unknown struct, no array without an element
  pub is_complete : Shape → Bool
  is_complete Incomplete = false
  is_complete (Scalar t width) = true
  is_complete (Record x bytes align fs) = are_complete fs
  is_complete (Row e n) = nat_lt 0 n && is_complete e

  pub are_complete : Fields → Bool
  are_complete no_fields = true
  are_complete (field offset s fs) = is_complete s && are_complete fs

-- an object of more bytes has no place in the subset
abbrev pub largest_size : ℕ
largest_size = 65536

-- a complete object type of a size that the subset has
abbrev pub is_object : Layout → CType → Bool
is_object l t = is_complete (shape_of l t) && nat_le (size_of l t) largest_size

abbrev pub is_scalar : CType → Bool
is_scalar (Integer i) = true
is_scalar (Ptr t) = true
is_scalar _ = false

-- bits of a scalar type
abbrev pub scalar_width : Target → CType → ℕ
scalar_width t (Integer i) = width_of t i
scalar_width t _ = address_width t

abbrev pub all_members_complete : (CType → Shape) → List Member → Bool
all_members_complete shape [] = true
all_members_complete shape (m ∷ ms) = is_complete (shape m.type) && all_members_complete shape ms

abbrev pub has_member : List Member → Bool
has_member [] = false
has_member (m ∷ ms) = true

-- names are distinct, and each struct has a member and is made of complete types, those of structs standing before it
abbrev pub are_built : Target → (Name → Shape) → List Name → List StructDef → Bool
are_built t structs names [] = true
are_built t structs names (d ∷ ds) =
    not (is_among d.name names) && has_member d.members && all_members_complete (shape_from t structs) d.members
    && are_built t (with_name d.name (struct_shape (shape_from t structs) d) structs) (d.name ∷ names) ds

-- and no struct is larger than an object may be
abbrev pub are_small : Target → (Name → Shape) → List StructDef → Bool
are_small t structs [] = true
are_small t structs (d ∷ ds) =
    let s = struct_shape (shape_from t structs) d in
    nat_le (size s) largest_size && are_small t (with_name d.name s structs) ds

-- a layout that can be: well-built, with structs of at most 65,536 bytes
pub record IsLayout (l : Layout) : Type 0 where
  pub built : are_built l.target (λ x. Incomplete) [] l.structs ≡ true
  pub small : are_small l.target (λ x. Incomplete) l.structs ≡ true

-- a global, with the value that it begins with
pub record GlobalVar : Type 0 where
  pub name : Name
  pub type : CType
  pub initial : Value

-- the type of a global, where there is one of the name
abbrev pub global_type : List GlobalVar → Name → Option CType
global_type [] x = None
global_type (v ∷ vs) x = if same_name v.name x then Some v.type else global_type vs x
