-- The members of a struct that a table describes.
use Rattle.std.proofs.Common.{◌≡◌, ℕ, zero, suc, ◌+◌, ◌<◌, ◌≤◌, List, [], ◌∷◌, length, get_or, map, pos, refl, sym, ap, ◌∙◌, subst, arith}
use Rattle.std.proofs.lemmas.List.{length-map}
use Rattle.std.proofs.lemmas.Option.{slice_get_read}
use Rattle.std.specs.HashMap.{get_by_text}
use Rattle.std.specs.Prelude.{Some, None, IfSome, String, string_bytes}
use Rattle.std.specs.declared.alloc.Global.{Global}
use Rattle.c_values.specs.declared.types.CType as C
use Rattle.c_values.specs.declared.layouts.StructDef as D
use Rattle.c_values.specs.declared.places.Places as P
use Rattle.c_values.specs.Name.{Name}
use Rattle.c_values.specs.Types.{Target, CType}
use Rattle.c_values.specs.Layout.{Layout, Shape, Incomplete, Record, Fields, no_fields, field, size, alignment, aligned, placed, Member, struct_shape, shape_from, shapes_after}
use Rattle.c_values.specs.Path.{Field, step_spot, member_spot}
use Rattle.c_values.specs.CodeTypes.{type_of}
use Rattle.c_values.specs.CodeLayout.{member_of, struct_def_of}
use Rattle.c_values.specs.CodeStructTable.{Table, DescribesShape, IsNamed, IsTabled, offsets}
use Rattle.c_values.proofs.Defined.{layout_defined}
use Rattle.c_values.proofs.Tabulating.{seen_here, seen_within}

length-offsets : (f : CType → Shape) (at : ℕ) (ms : List Member) → length (offsets (placed f at ms)) ≡ length ms
length-offsets f at [] = refl
length-offsets f at (m ∷ ms) = ap suc (length-offsets f (aligned at (alignment (f m.type)) + size (f m.type)) ms)

past_members : (fs : Fields) (k : ℕ) → length (offsets fs) ≤ k → member_spot fs k ≡ None
past_members no_fields k h = refl
past_members (field at s fs) zero h = absurd (omega arith)
past_members (field at s fs) (suc k) h = past_members fs k (omega arith)

member_placed : (f : CType → Shape) (at : ℕ) (items : List (String Global × C.CType)) (k o : ℕ) (m : String Global × C.CType) → k < length items → m ≡ get_or items k m →
    o ≡ get_or (offsets (placed f at (map member_of items))) k o → member_spot (placed f at (map member_of items)) k ≡ Some (record { offset = pos o; shape = f (type_of m.1) })
member_placed f at [] k o m h e e' = absurd (omega arith)
member_placed f at (m' ∷ items) zero o m h e e' = rw (e, e') refl
member_placed f at (m' ∷ items) (suc k) o m h e e' =
    let s = f (type_of m'.1) in
    member_placed f (aligned at (alignment s) + size s) items k o m (omega arith) e e'

pub no_member : (e : P.Places) (s : Shape) (k : ℕ) → DescribesShape (Some e) s → length e.offsets.items ≤ k → step_spot s (Field k) ≡ None
no_member e (Record x n align fs) k h past = past_members fs k (subst (λ os. length os ≤ k) h.offsets past)
no_member _ _ _ h _ = absurd h

-- a struct of the shape of its definition
module _ (e : P.Places) (f : CType → Shape) (s : Shape) (d : D.StructDef) (is : s ≡ struct_shape f (struct_def_of d)) (h : DescribesShape (Some e) s) where
  own_offsets : e.offsets.items ≡ offsets (placed f 0 (map member_of d.members.items))
  own_offsets = (subst (DescribesShape (Some e)) is h).offsets

  pub as_many : length e.offsets.items ≡ length d.members.items
  as_many = ap length own_offsets ∙ length-offsets f 0 (map member_of d.members.items) ∙ rw length-map refl

  pub member_here : (k o : ℕ) (m : String Global × C.CType) → k < length d.members.items → m ≡ get_or d.members.items k m → o ≡ get_or e.offsets.items k o →
      step_spot s (Field k) ≡ Some (record { offset = pos o; shape = f (type_of m.1) })
  member_here k o m within here there =
      ap (λ r. step_spot r (Field k)) is ∙ member_placed f 0 d.members.items k o m within here (there ∙ ap (λ os. get_or os k o) own_offsets)

-- what a table tells of the struct of a name
module _ (t : Target) (ds : List D.StructDef) (table : Table) (h : IsTabled t ds table) (x : Name) (e : P.Places) (found : Some e ≡ get_by_text table x) where
  abbrev structs : Name → Shape
  structs = shapes_after t (λ y. Incomplete) (map struct_def_of ds)

  pub described : DescribesShape (Some e) (structs x)
  described = subst (λ o. DescribesShape o (structs x)) (sym found) (h.describes.at x)

  pub named : IsNamed ds x e.position
  named = subst (λ o. IfSome o (λ p. IsNamed ds x p.position)) (sym found) (h.finds.at x)

  module _ (d : D.StructDef) (here : d ≡ get_or ds e.position d) where
    own_name : string_bytes d.name ≡ x
    own_name = subst (λ o. IfSome o (λ d'. string_bytes d'.name ≡ x)) (slice_get_read ds (length ds) e.position d refl named.1 here) named.0

    pub own_shape : structs x ≡ struct_shape (shape_from t structs) (struct_def_of d)
    own_shape =
        let l : Layout = record { target = t; structs = map struct_def_of ds } in
        let seen = slice_get_read (map struct_def_of ds) (length (map struct_def_of ds)) e.position (struct_def_of d) refl (seen_within ds e.position named.1) (seen_here ds e.position d named.1 here) in
        ap structs (sym own_name) ∙ (layout_defined l h.layout e.position (struct_def_of d) seen).shape
