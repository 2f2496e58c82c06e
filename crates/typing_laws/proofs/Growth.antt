-- A layout with one struct more keeps the shapes of its complete types.
use Rattle.std.proofs.Common.{◌≡◌, Bool, true, false, not, cond, ◌&&◌, leb, List, [], ◌∷◌, ◌++◌, map, Option, Some, refl, sym, ap, ◌∙◌, subst}
use Rattle.std.proofs.lemmas.Bool.{false≢true, and_parts, cond-true, cond-false}
use Rattle.c_values.specs.Name.{Name, same_name, with_name, is_among}
use Rattle.c_values.specs.Types.{Target, CType, Struct, Array}
use Rattle.c_values.specs.Layout.{Layout, IsLayout, Shape, Incomplete, Row, size, StructDef, struct_shape, shape_from, shapes_after, shape_of, is_object, is_complete, has_member, all_members_complete, largest_size, size_of}
use Rattle.c_values.specs.Growth.{with_struct, struct_names, can_follow, struct_named}
use Rattle.c_values.proofs.Laid.{structs_of, other_name}
use Rattle.c_values.proofs.Growing.{shapes_more, small_more, built_more}
use Rattle.typing_laws.proofs.Tests.{right, neither, not_true, name_is, name_itself}

-- a later layout
pub record IsGrown (l m : Layout) : Type 0 where
  pub target : m.target ≡ l.target
  pub kept : (u : CType) → is_complete (shape_of l u) ≡ true → shape_of m u ≡ shape_of l u
  pub named : (x : Name) (d : StructDef) → struct_named l.structs x ≡ Some d → struct_named m.structs x ≡ Some d

pub grown_itself : (l : Layout) → IsGrown l l
grown_itself l = record { target = refl; kept = λ u h. refl; named = λ x d h. h }

pub grown_twice : (l m n : Layout) → IsGrown l m → IsGrown m n → IsGrown l n
grown_twice l m n h k = record {
  target = k.target ∙ h.target;
  kept = λ u c. k.kept u (ap is_complete (h.kept u c) ∙ c) ∙ h.kept u c;
  named = λ x d c. k.named x d (h.named x d c);
}

-- an object stays one
pub object_kept : (l m : Layout) (u : CType) → IsGrown l m → is_object l u ≡ true → is_object m u ≡ true
object_kept l m u h c =
    let p = and_parts (is_complete (shape_of l u)) (leb (size_of l u) largest_size) c in
    subst (λ s. (is_complete s && leb (size s) largest_size) ≡ true) (sym (h.kept u p.0)) c

abbrev none : Name → Shape
none x = Incomplete

shape_elsewhere : (t : Target) (structs : Name → Shape) (ds : List StructDef) (x : Name) → is_among x (map (λ d. d.name) ds) ≡ false → shapes_after t structs ds x ≡ structs x
shape_elsewhere t structs [] x h = refl
shape_elsewhere t structs (d ∷ ds) x h =
    let p = neither (same_name x d.name) (is_among x (map (λ e. e.name) ds)) h in
    shape_elsewhere t (with_name d.name (struct_shape (shape_from t structs) d) structs) ds x p.1
    ∙ cond-false (same_name d.name x) (struct_shape (shape_from t structs) d) (structs x) (other_name x d.name p.0)

-- what can_follow says
record Follows (l : Layout) (d : StructDef) : Type 0 where
  new : is_among d.name (struct_names l) ≡ false
  some : has_member d.members ≡ true
  complete : all_members_complete (shape_of l) d.members ≡ true

follows : (l : Layout) (d : StructDef) → can_follow l d ≡ true → Follows l d
follows l d h =
    let p = and_parts (not (is_among d.name (struct_names l)) && has_member d.members) (all_members_complete (shape_of l) d.members) h in
    let q = and_parts (not (is_among d.name (struct_names l))) (has_member d.members) p.0 in
    record { new = not_true (is_among d.name (struct_names l)) q.0; some = q.1; complete = p.1 }

module _ (t : Target) (structs : Name → Shape) (x : Name) (s : Shape) (new : structs x ≡ Incomplete) where
  abbrev more : Name → Shape
  more = with_name x s structs

  same_struct : (y : Name) → is_complete (structs y) ≡ true → more y ≡ structs y
  same_struct y known = by_cases (same_name x y) refl
    where
      by_cases : (b : Bool) → same_name x y ≡ b → cond b s (structs y) ≡ structs y
      by_cases true e = absurd (false≢true (ap is_complete (sym (ap structs (sym (name_is x y e)) ∙ new)) ∙ known))
      by_cases false e = refl

  same_shape : (u : CType) → is_complete (shape_from t structs u) ≡ true → shape_from t more u ≡ shape_from t structs u
  same_shape (Struct y) h = same_struct y h
  same_shape (Array u n) h = ap (λ e. Row e n) (same_shape u (and_parts _ (is_complete (shape_from t structs u)) h).1)
  same_shape _ _ = refl

found_or : {A : Type 0} (b : Bool) (first o p : Option A) (a : A) → (o ≡ Some a → p ≡ Some a) → cond b first o ≡ Some a → cond b first p ≡ Some a
found_or true first o p a h k = k
found_or false first o p a h k = h k

named_longer : (ds es : List StructDef) (x : Name) (d : StructDef) → struct_named ds x ≡ Some d → struct_named (ds ++ es) x ≡ Some d
named_longer [] es x d h = absurd cc
named_longer (e ∷ ds) es x d h = found_or (same_name e.name x) (Some e) (struct_named ds x) (struct_named (ds ++ es) x) d (named_longer ds es x d) h

module _ (l : Layout) (d : StructDef) where
  abbrev own : Shape
  own = struct_shape (shape_of l) d

  structs_more : structs_of (with_struct l d) ≡ with_name d.name own (structs_of l)
  structs_more = shapes_more l.target none l.structs d

  pub struct_grows : can_follow l d ≡ true → IsGrown l (with_struct l d)
  struct_grows h = record {
    target = refl;
    kept = λ u c. ap (λ f. shape_from l.target f u) structs_more
        ∙ same_shape l.target (structs_of l) d.name own (shape_elsewhere l.target none l.structs d.name (follows l d h).new) u c;
    named = λ x e c. named_longer l.structs (d ∷ []) x e c;
  }

  last_shape : shape_of (with_struct l d) (Struct d.name) ≡ own
  last_shape = ap (λ f. f d.name) structs_more ∙ cond-true (same_name d.name d.name) own (structs_of l d.name) (name_itself d.name)

  pub struct_layout : IsLayout l → can_follow l d ≡ true → is_object (with_struct l d) (Struct d.name) ≡ true → IsLayout (with_struct l d)
  struct_layout h c o =
      let f = follows l d c in
      let fits : (is_complete own && leb (size own) largest_size) ≡ true = subst (λ s. (is_complete s && leb (size s) largest_size) ≡ true) last_shape o in
      record {
        built = built_more l.target none [] l.structs d h.built refl f.new f.some f.complete;
        small = small_more l.target none l.structs d h.small (right (is_complete own) (leb (size own) largest_size) fits);
      }
