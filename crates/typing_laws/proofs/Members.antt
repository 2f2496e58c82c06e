-- A member that the checker finds in a struct that lies at a typed place.
use Rattle.std.proofs.Common.{◌≡◌, ℕ, suc, ◌+◌, Bool, true, false, cond, List, [], ◌∷◌, Some, slice_get, refl, sym, ap, ◌∙◌, subst, arith}
use Rattle.std.proofs.lemmas.Bool.{and_parts}
use Rattle.c_values.specs.Name.{Name, same_name}
use Rattle.c_values.specs.Types.{CType, Struct}
use Rattle.c_values.specs.Layout.{Layout, IsLayout, Shape, Member, StructDef, alignment, aligned, placed, size, struct_shape, shape_of, is_complete, all_members_complete}
use Rattle.c_values.specs.Growth.{struct_named}
use Rattle.c_values.proofs.Defined.{layout_defined}
use Rattle.c_values.proofs.Laid.{structs_of, shape_type}
use Rattle.typing_rules.specs.Checked.{Ruling, Ruled}
use Rattle.typing_rules.specs.Operand.{place_then}
use Rattle.typing_rules.specs.Expressions.{member_from}
use Rattle.c_lang.specs.Typed as C
use Rattle.c_lang.specs.WellTyped.{Scope, member_shape, shape_along, is_typed_place}
use Rattle.typing_laws.proofs.Tests.{name_is, some_same}
use Rattle.typing_laws.proofs.Rulings.{Rules, ruled, refused}
use Rattle.typing_laws.proofs.Places.{IsSound, place_further}

struct_at : (ds : List StructDef) (x : Name) (d : StructDef) → struct_named ds x ≡ Some d → (k : ℕ) × (slice_get ds k ≡ Some d) × (d.name ≡ x)
struct_at [] x d h = absurd cc
struct_at (e ∷ ds) x d h = by_cases (same_name e.name x) refl (struct_at ds x d) h
  where
    by_cases : (b : Bool) → same_name e.name x ≡ b → (struct_named ds x ≡ Some d → (k : ℕ) × (slice_get ds k ≡ Some d) × (d.name ≡ x)) →
        cond b (Some e) (struct_named ds x) ≡ Some d → (k : ℕ) × (slice_get (e ∷ ds) k ≡ Some d) × (d.name ≡ x)
    by_cases true c r k = (0, k, subst (λ f. f.name ≡ x) (some_same k) (name_is e.name x c))
    by_cases false c r k = let p = r k in (suc p.0, p.1, p.2)

-- a struct that the layout names
pub struct_defined : (l : Layout) (x : Name) (d : StructDef) → IsLayout l → struct_named l.structs x ≡ Some d →
    (shape_of l (Struct x) ≡ struct_shape (shape_of l) d) × (all_members_complete (shape_of l) d.members ≡ true)
struct_defined l x d h e =
    let r = struct_at l.structs x d e in
    let f = layout_defined l h r.0 d r.1 in
    (ap (structs_of l) (sym r.2) ∙ f.shape, f.complete)

-- a member of the number has the type, which is complete
abbrev pub IsMember : (CType → Shape) → ℕ → List Member → ℕ × CType → Type 0
IsMember f k ms m = (i : ℕ) × (m.0 ≡ k + i) × (is_complete (f m.1) ≡ true) × ((at : ℕ) → member_shape (placed f at ms) i ≡ Some (f m.1))

pub member_found : (f : CType → Shape) (k : ℕ) (ms : List Member) (x : Name) → all_members_complete f ms ≡ true → Rules (IsMember f k ms) (member_from k ms x)
member_found f k [] x h = refused
member_found f k (m ∷ ms) x h =
    let p = and_parts (is_complete (f m.type)) (all_members_complete f ms) h in
    by_cases (same_name m.name x) p.0 (member_from (k + 1) ms x) (member_found f (k + 1) ms x p.1)
  where
    further : (n : ℕ × CType) → IsMember f (k + 1) ms n → IsMember f k (m ∷ ms) n
    further n w = (suc w.0, omega (arith, w.1), w.2, λ at. w.3 (aligned at (alignment (f m.type)) + size (f m.type)))

    by_cases : (b : Bool) → is_complete (f m.type) ≡ true → (r : Ruling (ℕ × CType)) → Rules (IsMember f (k + 1) ms) r → Rules (IsMember f k (m ∷ ms)) (cond b (Ruled (k, m.type)) r)
    by_cases true c r w = ruled (0, omega arith, c, λ at. refl)
    by_cases false c _ (ruled {a} w) = ruled (further a w)
    by_cases false c _ refused = refused

-- where the place's type is a struct, the member lies there
pub place_member : (g : Scope) (p : C.Place) (x : Name) (d : StructDef) (m : ℕ × CType) → IsSound g → is_typed_place g p ≡ true → C.place_type p ≡ Struct x →
    struct_named g.layout.structs x ≡ Some d → IsMember (shape_of g.layout) 0 d.members m → is_typed_place g (place_then p (C.Member m.0 C.Here) m.1) ≡ true
place_member g p x d m h c e found w =
    let s = struct_defined g.layout x d h.layout found in
    let own : m.0 ≡ w.0 = omega (arith, w.1) in
    let step : shape_along (Some (shape_of g.layout (Struct x))) (C.Member m.0 C.Here) ≡ Some (shape_of g.layout m.1) =
    subst (λ r. shape_along (Some r) (C.Member m.0 C.Here) ≡ Some (shape_of g.layout m.1)) (sym s.0)
    (subst (λ k. member_shape (placed (shape_of g.layout) 0 d.members) k ≡ Some (shape_of g.layout m.1)) (sym own) (w.3 0)) in
    place_further g p (C.Member m.0 C.Here) m.1 h c refl
    (subst (λ u. shape_along (Some (shape_of g.layout u)) (C.Member m.0 C.Here) ≡ Some (shape_of g.layout m.1)) (sym e) step)
    (shape_type g.layout h.layout m.1 w.2)
