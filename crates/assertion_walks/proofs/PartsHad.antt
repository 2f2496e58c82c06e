-- Which types a shape has parts of, by a search; and the shape of a struct by its definition.
use Rattle.std.proofs.Common.{◌≡◌, ℕ, suc, ◌+◌, ◌*◌, ◌<◌, inl, inr, Bool, true, false, ◌&&◌, ◌||◌, cond, List, [], ◌∷◌, refl, sym, ap, ap₂, ◌∙◌, subst, arith}
use Rattle.std.proofs.lemmas.Bool.{and_parts, or_cases, or_left, or_right, ltb-true, lt-ltb}
use Rattle.std.specs.Prelude.{◌↔◌, nat_lt, Some, slice_get}
use Rattle.c_values.specs.Name.{Name, same_name}
use Rattle.c_values.specs.Types.{CType, Struct, same_type}
use Rattle.c_values.specs.Layout.{Layout, IsLayout, Shape, Incomplete, Scalar, Record, Row, Fields, no_fields, field, Member, StructDef, size, alignment, aligned, placed, shape_of}
use Rattle.c_values.specs.Growth.{struct_named}
use Rattle.c_values.specs.CodeSameType.{type_is, same_type-refl}
use Rattle.c_values.proofs.Laid.{structs_of, name_is}
use Rattle.c_values.proofs.Defined.{layout_defined}
use Rattle.c_memory.specs.Tags.{IsPart, scalar, struct, of_member, of_element, IsMember, here, later}
use Rattle.assertion_walks.specs.CodeRelated.{has_part, fields_have, members_have}
use Rattle.assertion_walks.specs.Written.{AreRelated}

-- somewhere in a shape
abbrev pub SomePart : Shape → CType → Type 0
SomePart s t = (d : ℕ) × IsPart s d t

abbrev SomeMemberPart : Fields → CType → Type 0
SomeMemberPart fs t = (at : ℕ) × (s : Shape) × IsMember fs at s × SomePart s t

in_record : (x : Name) (n align : ℕ) (fs : Fields) (t : CType) → SomeMemberPart fs t → SomePart (Record x n align fs) t
in_record x n align fs t m = (m.0 + m.3.0, of_member m.2 m.3.1)

in_row : (e : Shape) (n : ℕ) (t : CType) → 0 < n → SomePart e t → SomePart (Row e n) t
in_row e n t h p = (0 * size e + p.0, of_element h p.1)

behind : (at : ℕ) (s : Shape) (fs : Fields) (t : CType) → SomeMemberPart fs t → SomeMemberPart (field at s fs) t
behind at s fs t m = (m.0, m.1, later m.2, m.3)

mutual
  part_found : (s : Shape) (t : CType) → has_part s t ≡ true → SomePart s t
  part_found Incomplete t h = absurd cc
  part_found (Scalar u width) t h = (0, subst (λ v. IsPart (Scalar u width) 0 v) (type_is u t h) scalar)
  part_found (Record x n align fs) t h =
      elim (or_cases (same_type (Struct x) t) (fields_have fs t) h) [
        | inl i ↦ (0, subst (λ v. IsPart (Record x n align fs) 0 v) (type_is (Struct x) t i) struct)
        | inr i ↦ in_record x n align fs t (member_found fs t i)
      ]
  part_found (Row e n) t h =
      let both = and_parts (nat_lt 0 n) (has_part e t) h in
      in_row e n t (ltb-true 0 n both.0) (part_found e t both.1)

  member_found : (fs : Fields) (t : CType) → fields_have fs t ≡ true → SomeMemberPart fs t
  member_found no_fields t h = absurd cc
  member_found (field at s fs) t h =
      elim (or_cases (has_part s t) (fields_have fs t) h) [
        | inl i ↦ (at, s, here, part_found s t i)
        | inr i ↦ behind at s fs t (member_found fs t i)
      ]

member_has : {fs : Fields} {at : ℕ} {s : Shape} (t : CType) → IsMember fs at s → has_part s t ≡ true → fields_have fs t ≡ true
member_has t (here {s = s} {fs = fs}) h = or_left (has_part s t) (fields_have fs t) h
member_has t (later {s' = s'} {fs = fs} m) h = or_right (has_part s' t) (fields_have fs t) (member_has t m h)

part_had : {s : Shape} {d : ℕ} {t : CType} → IsPart s d t → has_part s t ≡ true
part_had (scalar {t = t}) = same_type-refl t
part_had (struct {x = x} {fs = fs}) = or_left (same_type (Struct x) (Struct x)) (fields_have fs (Struct x)) (same_type-refl (Struct x))
part_had (of_member {x = x} {fs = fs} {t = t} m p) =
    or_right (same_type (Struct x) t) (fields_have fs t) (member_has t m (part_had p))
part_had (of_element {e = e} {n = n} {t = t} h p) = ap₂ (λ b c. b && c) (lt-ltb 0 n (omega arith)) (part_had p)

pub related_is : (l : Layout) (t u : CType) →
    ((has_part (shape_of l t) u || has_part (shape_of l u) t) ≡ true) ↔ AreRelated l t u
related_is l t u = (forth, back)
  where
    forth : (has_part (shape_of l t) u || has_part (shape_of l u) t) ≡ true → AreRelated l t u
    forth h =
        elim (or_cases (has_part (shape_of l t) u) (has_part (shape_of l u) t) h) [
          | inl i ↦ let p = part_found (shape_of l t) u i in (p.0, inl p.1)
          | inr i ↦ let p = part_found (shape_of l u) t i in (p.0, inr p.1)
        ]

    back : AreRelated l t u → (has_part (shape_of l t) u || has_part (shape_of l u) t) ≡ true
    back r =
        elim r.1 [
          | inl p ↦ or_left (has_part (shape_of l t) u) (has_part (shape_of l u) t) (part_had p)
          | inr p ↦ or_right (has_part (shape_of l t) u) (has_part (shape_of l u) t) (part_had p)
        ]

-- the members of a definition

fields_placed : (shape : CType → Shape) (at : ℕ) (ms : List Member) (t : CType) → fields_have (placed shape at ms) t ≡ members_have shape ms t
fields_placed shape at [] t = refl
fields_placed shape at (m ∷ ms) t =
    ap (λ b. has_part (shape m.type) t || b) (fields_placed shape (aligned at (alignment (shape m.type)) + size (shape m.type)) ms t)

record IsNamed (ds : List StructDef) (x : Name) (d : StructDef) : Type 0 where
  place : ℕ
  here : slice_get ds place ≡ Some d
  name : d.name ≡ x

named_first : (e : StructDef) (es : List StructDef) (x : Name) (d : StructDef) (b : Bool) → same_name e.name x ≡ b →
    cond b (Some e) (struct_named es x) ≡ Some d → (struct_named es x ≡ Some d → IsNamed es x d) → IsNamed (e ∷ es) x d
named_first e es x d true c h further =
    let same : e ≡ d = cc in record { place = 0; here = h; name = ap (λ (b : StructDef). b.name) (sym same) ∙ name_is e.name x c }
named_first e es x d false c h further = let f = further h in record { place = suc f.place; here = f.here; name = f.name }

named : (ds : List StructDef) (x : Name) (d : StructDef) → struct_named ds x ≡ Some d → IsNamed ds x d
named [] x d h = absurd cc
named (e ∷ es) x d h = named_first e es x d (same_name e.name x) refl h (λ i. named es x d i)

pub struct_has : (l : Layout) (x : Name) (d : StructDef) (t : CType) → IsLayout l → Some d ≡ struct_named l.structs x →
    has_part (shape_of l (Struct x)) t ≡ (same_type (Struct x) t || members_have (shape_of l) d.members t)
struct_has l x d t h e =
    let n = named l.structs x d (sym e) in
    ap (λ s. has_part s t) (ap (structs_of l) (sym n.name) ∙ (layout_defined l h n.place d n.here).shape)
    ∙ ap₂ (λ y b. same_type (Struct y) t || b) n.name (fields_placed (shape_of l) 0 d.members t)
