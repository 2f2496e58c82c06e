-- A table of where the members of structs lie, against the shapes of the structs.
use Rattle.std.specs.Prelude.{◌≡◌, ℕ, ◌<◌, Bool, true, false, nat_le, min, List, [], ◌∷◌, length, map, ◌+◌, String, string_bytes, Option, Some, None, slice_get, IfSome}
use Rattle.std.specs.declared.alloc.Global.{Global}
use Rattle.std.specs.declared.hash.FoldHasher.{FoldHasher}
use Rattle.std.specs.declared.hash.BuildHasherDefault.{BuildHasherDefault}
use Rattle.std.specs.HashMap.{HashMap, get_by_text}
use Rattle.c_values.specs.declared.layouts.StructDef as D
use Rattle.c_values.specs.declared.places.Places as P
use Rattle.c_values.specs.declared.places.Extent as E
use Rattle.c_values.specs.Name.{Name}
use Rattle.c_values.specs.Types.{Target, CType, Array}
use Rattle.c_values.specs.Layout.{Shape, Incomplete, Record, Fields, no_fields, field, size, alignment, is_complete, are_complete, largest_size, shapes_after, IsLayout}
use Rattle.c_values.specs.CodeLayout.{struct_def_of}

abbrev pub Table : Type 0
Table = HashMap (String Global) P.Places (BuildHasherDefault FoldHasher)

abbrev pub offsets : Fields → List ℕ
offsets no_fields = []
offsets (field at s fs) = at ∷ offsets fs

-- the places of a struct are those of the shape
pub record DescribesStruct (e : P.Places) (bytes align : ℕ) (fs : Fields) : Type 0 where
  pub size : e.size ≡ bytes
  pub alignment : e.alignment ≡ align
  pub offsets : e.offsets.items ≡ offsets fs
  pub complete : are_complete fs ≡ true

abbrev pub DescribesShape : Option P.Places → Shape → Type 0
DescribesShape None Incomplete = Unit {0}
DescribesShape (Some e) (Record x bytes align fs) = DescribesStruct e bytes align fs
DescribesShape _ _ = ⊥

-- each struct is where its name is
pub record Describes (table : Table) (structs : Name → Shape) : Type 0 where
  pub at : (x : Name) → DescribesShape (get_by_text table x) (structs x)

-- the struct of this name stands at this place
abbrev pub IsNamed : List D.StructDef → Name → ℕ → Type 0
IsNamed ds x k = IfSome (slice_get ds k) (λ d. string_bytes d.name ≡ x) × (k < length ds)

-- each struct's position is its place in the list
pub record Finds (table : Table) (ds : List D.StructDef) : Type 0 where
  pub at : (x : Name) → IfSome (get_by_text table x) (λ e. IsNamed ds x e.position)

-- what is known of a shape, the size growing no more past the largest of an object
pub record Measures (e : E.Extent) (s : Shape) : Type 0 where
  pub complete : e.complete ≡ is_complete s
  pub size : e.size ≡ min (size s) (largest_size + 1)
  pub alignment : e.alignment ≡ alignment s

abbrev pub is_array : CType → Bool
is_array (Array t n) = true
is_array _ = false

-- where the members of a struct of this shape lie, at its place; none where it is larger than an object may be
abbrev pub IsPlacement : Option P.Places → Shape → ℕ → Type 0
IsPlacement None s k = nat_le (size s) largest_size ≡ false
IsPlacement (Some e) s k = DescribesShape (Some e) s × (e.position ≡ k)

-- the table of a layout's structs
pub record IsTabled (t : Target) (ds : List D.StructDef) (table : Table) : Type 0 where
  pub layout : IsLayout (record { target = t; structs = map struct_def_of ds })
  pub describes : Describes table (shapes_after t (λ x. Incomplete) (map struct_def_of ds))
  pub finds : Finds table ds
