-- Zeros that are made one after the other, and one around the other.
use Rattle.std.proofs.Common.{◌≡◌, ℕ, zero, suc, ◌+◌, max, Bool, true, false, cond, List, [], ◌∷◌, ◌++◌, refl, sym, ap, ap₂, ◌∙◌, arith}
use Rattle.std.specs.Prelude.{Some, None, slice_get}
use Rattle.c_values.specs.Name.{Name, same_name, with_name}
use Rattle.c_values.specs.Types.{Target, CType, Struct}
use Rattle.c_values.specs.Layout.{Layout, IsLayout, Shape, Incomplete, size, alignment, aligned, placed, Member, StructDef, struct_shape, shape_from, shapes_after, shape_of}
use Rattle.c_values.specs.Growth.{struct_named}
use Rattle.c_values.specs.declared.values.Value as V
use Rattle.c_values.specs.Value.{Value, Values, Parts, no_values, more}
use Rattle.c_values.specs.CodeValue.{value_of}
use Rattle.c_values.specs.CodeParts.{values_in, joined}
use Rattle.c_values.specs.CodeLone.{inside, around}
use Rattle.c_values.proofs.Lone.{whole_around}
use Rattle.c_values.proofs.Joined.{joined-no_values, joined-push}
use Rattle.c_values.specs.Path.{zeros, copies, member_zeros}
use Rattle.c_values.proofs.Height.{height, highest}
use Rattle.c_values.proofs.Laid.{structs_of, name_is}
use Rattle.c_values.proofs.Defined.{layout_defined}

copies_more : (v : Value) (i : ℕ) → copies (i + 1) v ≡ joined (copies i v) (more v no_values)
copies_more v zero = refl
copies_more v (suc i) =
    let n : suc i + 1 ≡ suc (i + 1) = omega arith in
    ap (λ k. copies k v) n ∙ ap (λ vs. more v vs) (copies_more v i)

-- one element more
pub element_made : (z : Value) (i : ℕ) (xs : List V.Value) (v : V.Value) (new : List V.Value) → values_in xs ≡ copies i z → value_of v ≡ z → new ≡ xs ++ v ∷ [] → values_in new ≡ copies (i + 1) z
element_made z i xs v new before is pushed =
    ap values_in pushed
    ∙ sym (joined-no_values (values_in (xs ++ v ∷ [])))
    ∙ joined-push xs v no_values
    ∙ ap₂ (λ vs w. joined vs (more w no_values)) before is
    ∙ sym (copies_more z i)

-- the zeros of members, and how high the highest is
abbrev pub zeros_each : (CType → Shape) → List Member → Values
zeros_each shape [] = no_values
zeros_each shape (m ∷ ms) = more (zeros (shape m.type)) (zeros_each shape ms)

abbrev pub heights : (CType → Shape) → List Member → ℕ
heights shape [] = 0
heights shape (m ∷ ms) = max (height (shape m.type)) (heights shape ms)

zeros_placed : (shape : CType → Shape) (at : ℕ) (ms : List Member) → member_zeros (placed shape at ms) ≡ zeros_each shape ms
zeros_placed shape at [] = refl
zeros_placed shape at (m ∷ ms) =
    ap (λ vs. more (zeros (shape m.type)) vs) (zeros_placed shape (aligned at (alignment (shape m.type)) + size (shape m.type)) ms)

heights_placed : (shape : CType → Shape) (at : ℕ) (ms : List Member) → highest (placed shape at ms) ≡ heights shape ms
heights_placed shape at [] = refl
heights_placed shape at (m ∷ ms) =
    ap (λ h. max (height (shape m.type)) h) (heights_placed shape (aligned at (alignment (shape m.type)) + size (shape m.type)) ms)

-- one member more
pub member_made : (z : Value) (xs : List V.Value) (v : V.Value) (new : List V.Value) (rest all : Values) →
    joined (values_in xs) (more z rest) ≡ all → value_of v ≡ z → new ≡ xs ++ v ∷ [] → joined (values_in new) rest ≡ all
member_made z xs v new rest all before is pushed =
    ap (λ ys. joined (values_in ys) rest) pushed ∙ joined-push xs v rest ∙ ap (λ w. joined (values_in xs) (more w rest)) is ∙ before

-- all members
pub members_made : (shape : CType → Shape) (ms : List Member) (xs : List V.Value) → joined (values_in xs) no_values ≡ zeros_each shape ms → Parts (values_in xs) ≡ Parts (member_zeros (placed shape 0 ms))
members_made shape ms xs h = ap (λ vs. Parts vs) (sym (joined-no_values (values_in xs)) ∙ h ∙ sym (zeros_placed shape 0 ms))

-- a name that no struct has
unknown : (t : Target) (structs : Name → Shape) (ds : List StructDef) (x : Name) → structs x ≡ Incomplete → struct_named ds x ≡ None → shapes_after t structs ds x ≡ Incomplete
unknown t structs [] x h e = h
unknown t structs (d ∷ ds) x h e =
    by_cases (same_name d.name x) refl e (λ h'. unknown t (with_name d.name (struct_shape (shape_from t structs) d) structs) ds x h')
  where
    by_cases : (b : Bool) → same_name d.name x ≡ b → cond b (Some d) (struct_named ds x) ≡ None →
        (with_name d.name (struct_shape (shape_from t structs) d) structs x ≡ Incomplete → struct_named ds x ≡ None →
        shapes_after t (with_name d.name (struct_shape (shape_from t structs) d) structs) ds x ≡ Incomplete) →
        shapes_after t (with_name d.name (struct_shape (shape_from t structs) d) structs) ds x ≡ Incomplete
    by_cases true is e' further = absurd cc
    by_cases false is e' further = further (ap (λ b. cond b (struct_shape (shape_from t structs) d) (structs x)) is ∙ h) e'

pub incomplete_struct : (l : Layout) (x : Name) → None ≡ struct_named l.structs x → shape_of l (Struct x) ≡ Incomplete
incomplete_struct l x e = unknown l.target (λ y. Incomplete) l.structs x refl (sym e)

-- a name that a struct has
record Found (ds : List StructDef) (x : Name) (d : StructDef) : Type 0 where
  place : ℕ
  here : slice_get ds place ≡ Some d
  name : d.name ≡ x

found_in : (e : StructDef) (es : List StructDef) (x : Name) (d : StructDef) → (b : Bool) → same_name e.name x ≡ b → cond b (Some e) (struct_named es x) ≡ Some d →
    (struct_named es x ≡ Some d → Found es x d) → Found (e ∷ es) x d
found_in e es x d true c h further = let same : e ≡ d = cc in record { place = 0; here = h; name = ap (λ (b : StructDef). b.name) (sym same) ∙ name_is e.name x c }
found_in e es x d false c h further = let f = further h in record { place = suc f.place; here = f.here; name = f.name }

found : (ds : List StructDef) (x : Name) (d : StructDef) → struct_named ds x ≡ Some d → Found ds x d
found [] x d h = absurd cc
found (e ∷ es) x d h = found_in e es x d (same_name e.name x) refl h (λ h'. found es x d h')

struct_of : (l : Layout) (x : Name) (d : StructDef) → IsLayout l → Some d ≡ struct_named l.structs x → shape_of l (Struct x) ≡ struct_shape (shape_of l) d
struct_of l x d h e =
    let f = found l.structs x d (sym e) in
    ap (structs_of l) (sym f.name) ∙ (layout_defined l h f.place d f.here).shape

pub struct_zeros : (l : Layout) (x : Name) (d : StructDef) → IsLayout l → Some d ≡ struct_named l.structs x → Parts (member_zeros (placed (shape_of l) 0 d.members)) ≡ zeros (shape_of l (Struct x))
struct_zeros l x d h e = ap zeros (sym (struct_of l x d h e))

pub struct_height : (l : Layout) (x : Name) (d : StructDef) → IsLayout l → Some d ≡ struct_named l.structs x → height (shape_of l (Struct x)) ≡ suc (heights (shape_of l) d.members)
struct_height l x d h e = ap height (struct_of l x d h e) ∙ ap suc (heights_placed (shape_of l) 0 d.members)

-- the zeros of a type are those of what is inside, in as many parts
pub zeros_around : (l : Layout) (t : CType) → around t (zeros (shape_of l (inside t))) ≡ zeros (shape_of l t)
zeros_around l t = whole_around (λ s. zeros s) (λ e. refl) l t
