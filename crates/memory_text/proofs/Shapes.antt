-- The shapes of structs, and of their members.
use Rattle.std.proofs.Common.{◌≡◌, ℕ, zero, suc, ◌+◌, Bool, true, false, cond, ℤ, List, [], ◌∷◌, map, Some, None, refl, ap, sym, ◌∙◌}
use Rattle.std.specs.Prelude.{slice_get, replicate, String}
use Rattle.std.specs.declared.alloc.Global.{Global}
use Rattle.c_values.specs.Name.{Name, same_name, with_name}
use Rattle.c_values.specs.Types.{Target, CType, Struct}
use Rattle.c_values.specs.Layout.{Layout, IsLayout, Shape, Incomplete, Record, Fields, alignment, size, aligned, placed, Member, StructDef, struct_shape, shape_from, shapes_after, shape_of}
use Rattle.c_values.specs.Growth.{struct_named}
use Rattle.c_values.proofs.Laid.{structs_of, name_is}
use Rattle.c_values.proofs.Defined.{layout_defined}
use Rattle.c_values.proofs.Zeroed.{incomplete_struct}
use Rattle.c_values.specs.declared.types.CType as C
use Rattle.c_values.specs.CodeTypes.{type_of}
use Rattle.c_values.specs.CodeLayout.{member_of}
use Rattle.c_lang.specs.declared.tree.Variable.{Variable}
use Rattle.c_lang.specs.CodeTyped.{variable_of}
use Rattle.memory_text.specs.ValueText.{shapes_in, parts_of, is_number_of}

-- what goes for `void` and for every struct with a body goes for a struct of whatever name
module _ {A : Type 0} (f : Shape → A) (a : A) (void : f Incomplete ≡ a) (body : (x : Name) (bytes align : ℕ) (fs : Fields) → f (Record x bytes align fs) ≡ a) where
  any_struct_from : (t : Target) (structs : Name → Shape) (ds : List StructDef) (x : Name) → ((y : Name) → f (structs y) ≡ a) → f (shapes_after t structs ds x) ≡ a
  any_struct_from t structs [] x all = all x
  any_struct_from t structs (d ∷ ds) x all = any_struct_from t (with_name d.name (struct_shape (shape_from t structs) d) structs) ds x (λ y. by y (same_name d.name y))
    where
      by : (y : Name) (b : Bool) → f (cond b (struct_shape (shape_from t structs) d) (structs y)) ≡ a
      by y true = body d.name _ _ _
      by y false = all y

  pub any_struct : (l : Layout) (x : Name) → f (shape_of l (Struct x)) ≡ a
  any_struct l x = any_struct_from l.target (λ y. Incomplete) l.structs x (λ y. void)

-- no struct is a scalar
pub no_number : (g : Target) (l : Layout) (x : Name) (n : ℤ) → false ≡ is_number_of g (shape_of l (Struct x)) n
no_number g l x n = sym (any_struct (λ s. is_number_of g s n) false refl (λ y bytes align fs. refl) l x)

struct_at : (ds : List StructDef) (x : Name) (d : StructDef) → struct_named ds x ≡ Some d → (k : ℕ) × (slice_get ds k ≡ Some d) × (d.name ≡ x)
struct_at [] x d h = absurd cc
struct_at (e ∷ ds) x d h = by (same_name e.name x) refl h (struct_at ds x d)
  where
    by : (b : Bool) → same_name e.name x ≡ b → cond b (Some e) (struct_named ds x) ≡ Some d → (struct_named ds x ≡ Some d → (k : ℕ) × (slice_get ds k ≡ Some d) × (d.name ≡ x)) → (k : ℕ) × (slice_get (e ∷ ds) k ≡ Some d) × (d.name ≡ x)
    by true c k r = let same : e ≡ d = cc in (0, k, ap (λ (f : StructDef). f.name) (sym same) ∙ name_is e.name x c)
    by false c k r = let p = r k in (suc p.0, p.1, p.2)

member_shapes : (shape : CType → Shape) (at : ℕ) (ms : List Member) → shapes_in (placed shape at ms) ≡ map (λ m. shape m.type) ms
member_shapes shape at [] = refl
member_shapes shape at (m ∷ ms) = ap (λ ss. shape m.type ∷ ss) (member_shapes shape (aligned at (alignment (shape m.type)) + size (shape m.type)) ms)

pub struct_parts : (l : Layout) (x : Name) (d : StructDef) → IsLayout l → Some d ≡ struct_named l.structs x → Some (map (λ m. shape_of l m.type) d.members) ≡ parts_of (shape_of l (Struct x))
struct_parts l x d h e =
    let r = struct_at l.structs x d (sym e) in
    let f = layout_defined l h r.0 d r.1 in
    ap Some (sym (member_shapes (shape_of l) 0 d.members)) ∙ ap parts_of (sym (ap (structs_of l) (sym r.2) ∙ f.shape))

pub no_parts : (l : Layout) (x : Name) → None ≡ struct_named l.structs x → None ≡ parts_of (shape_of l (Struct x))
no_parts l x e = ap parts_of (sym (incomplete_struct l x e))

-- the shapes of members and of parameters
pub members_shapes : (l : Layout) (ms : List (String Global × C.CType)) → map (shape_of l) (map (λ m. type_of m.1) ms) ≡ map (λ m. shape_of l m.type) (map member_of ms)
members_shapes l [] = refl
members_shapes l (m ∷ ms) = ap (λ ss. shape_of l (type_of m.1) ∷ ss) (members_shapes l ms)

pub parameters_shapes : (l : Layout) (vs : List Variable) → map (shape_of l) (map (λ v. type_of v.ty) vs) ≡ map (λ v. shape_of l v.type) (map variable_of vs)
parameters_shapes l [] = refl
parameters_shapes l (v ∷ vs) = ap (λ ss. shape_of l (type_of v.ty) ∷ ss) (parameters_shapes l vs)

pub elements_shapes : (l : Layout) (n : ℕ) (t : CType) → map (shape_of l) (replicate n t) ≡ replicate n (shape_of l t)
elements_shapes l zero t = refl
elements_shapes l (suc n) t = ap (λ ss. shape_of l t ∷ ss) (elements_shapes l n t)
