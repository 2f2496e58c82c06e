-- The struct of a name, by the table of a layout.
use Rattle.std.proofs.Common.{◌≡◌, ℕ, zero, suc, Bool, true, false, cond, not, ◌&&◌, ◌||◌, List, [], ◌∷◌, get_or, length, map, refl, sym, ap, ◌∙◌, subst}
use Rattle.std.proofs.lemmas.Bool.{and_parts, true≢false, cond-true, cond-false}
use Rattle.std.proofs.lemmas.Option.{slice_get_read}
use Rattle.std.specs.HashMap.{get_by_text}
use Rattle.std.specs.Prelude.{Option, Some, None, IfSome, slice_get, string_bytes}
use Rattle.c_values.specs.Name.{Name, same_name, with_name, is_among}
use Rattle.c_values.specs.Types.{Target}
use Rattle.c_values.specs.Layout.{Shape, Incomplete, Scalar, Record, Row, StructDef, struct_shape, shape_from, shapes_after, are_built, has_member, all_members_complete}
use Rattle.c_values.specs.Growth.{struct_named}
use Rattle.c_values.specs.declared.layouts.StructDef as D
use Rattle.c_values.specs.declared.places.Places as P
use Rattle.c_values.specs.CodeLayout.{struct_def_of}
use Rattle.c_values.specs.CodeStructTable.{Table, DescribesShape, IsTabled}
use Rattle.c_values.proofs.Laid.{same_name-refl, name_is}
use Rattle.c_values.proofs.Defined.{layout_defined}
use Rattle.c_values.proofs.Members.{named}
use Rattle.c_values.proofs.Tabulating.{seen_here, seen_within}

-- a struct among those that are built has none of the names before
apart : (t : Target) (structs : Name → Shape) (names : List Name) (ds : List StructDef) (k : ℕ) (d : StructDef) → are_built t structs names ds ≡ true → slice_get ds k ≡ Some d → is_among d.name names ≡ false
apart t structs names [] k d h e = absurd cc
apart t structs names (d' ∷ ds) zero d h e =
    let first = not (is_among d'.name names) && has_member d'.members && all_members_complete (shape_from t structs) d'.members in
    let p = and_parts first (are_built t (with_name d'.name (struct_shape (shape_from t structs) d') structs) (d'.name ∷ names) ds) h in
    let q = and_parts (not (is_among d'.name names) && has_member d'.members) (all_members_complete (shape_from t structs) d'.members) p.0 in
    let r = and_parts (not (is_among d'.name names)) (has_member d'.members) q.0 in
    let same : d' ≡ d = cc in
    subst (λ (b : StructDef). is_among b.name names ≡ false) same (negated (is_among d'.name names) r.0)
  where
    negated : (b : Bool) → not b ≡ true → b ≡ false
    negated true h' = absurd (true≢false (sym h'))
    negated false h' = refl
apart t structs names (d' ∷ ds) (suc k) d h e =
    let first = not (is_among d'.name names) && has_member d'.members && all_members_complete (shape_from t structs) d'.members in
    let after = with_name d'.name (struct_shape (shape_from t structs) d') structs in
    let p = and_parts first (are_built t after (d'.name ∷ names) ds) h in
    second (same_name d.name d'.name) (is_among d.name names) (apart t after (d'.name ∷ names) ds k d p.1 e)
  where
    second : (a b : Bool) → (a || b) ≡ false → b ≡ false
    second true b h' = absurd (true≢false h')
    second false b h' = h'

-- it is the only one of its name
unique : (t : Target) (structs : Name → Shape) (names : List Name) (ds : List StructDef) (k : ℕ) (d : StructDef) → are_built t structs names ds ≡ true → slice_get ds k ≡ Some d → struct_named ds d.name ≡ Some d
unique t structs names [] k d h e = absurd cc
unique t structs names (d' ∷ ds) zero d h e =
    let same : d' ≡ d = cc in
    subst (λ (b : StructDef). cond (same_name d'.name b.name) (Some d') (struct_named ds b.name) ≡ Some b) same
    (cond-true (same_name d'.name d'.name) (Some d') (struct_named ds d'.name) (same_name-refl d'.name))
unique t structs names (d' ∷ ds) (suc k) d h e =
    let first = not (is_among d'.name names) && has_member d'.members && all_members_complete (shape_from t structs) d'.members in
    let after = with_name d'.name (struct_shape (shape_from t structs) d') structs in
    let p = and_parts first (are_built t after (d'.name ∷ names) ds) h in
    let other = not_first (same_name d.name d'.name) (is_among d.name names) (apart t after (d'.name ∷ names) ds k d p.1 e) in
    cond-false (same_name d'.name d.name) (Some d') (struct_named ds d.name) (differs other (same_name d'.name d.name) refl) ∙ unique t after (d'.name ∷ names) ds k d p.1 e
  where
    not_first : (a b : Bool) → (a || b) ≡ false → a ≡ false
    not_first true b h' = h'
    not_first false b h' = refl

    differs : same_name d.name d'.name ≡ false → (b : Bool) → same_name d'.name d.name ≡ b → b ≡ false
    differs o true c = absurd (true≢false (sym (same_name-refl d.name) ∙ ap (λ x. same_name d.name x) (sym (name_is d'.name d.name c)) ∙ o))
    differs o false c = refl

record Found (ds : List StructDef) (x : Name) (d : StructDef) : Type 0 where
  place : ℕ
  here : slice_get ds place ≡ Some d
  name : d.name ≡ x

found_in : (e : StructDef) (es : List StructDef) (x : Name) (d : StructDef) → (b : Bool) → same_name e.name x ≡ b → cond b (Some e) (struct_named es x) ≡ Some d →
    (struct_named es x ≡ Some d → Found es x d) → Found (e ∷ es) x d
found_in e es x d true c h further = let same : e ≡ d = cc in record { place = 0; here = h; name = ap (λ (b : StructDef). b.name) (sym same) ∙ name_is e.name x c }
found_in e es x d false c h further = let f = further h in record { place = suc f.place; here = f.here; name = f.name }

found : (ds : List StructDef) (x : Name) (d : StructDef) → struct_named ds x ≡ Some d → Found ds x d
found [] x d h = absurd cc
found (e ∷ es) x d h = found_in e es x d (same_name e.name x) refl h (λ h'. found es x d h')

absent : (o : Option StructDef) → ((d : StructDef) → o ≡ Some d → ⊥) → o ≡ None
absent None h = refl
absent (Some d) h = absurd (h d refl)

module _ (t : Target) (ds : List D.StructDef) (table : Table) (h : IsTabled t ds table) (x : Name) where
  abbrev all : List StructDef
  all = map struct_def_of ds

  abbrev structs : Name → Shape
  structs = shapes_after t (λ y. Incomplete) all

  unknown : (s : Shape) → DescribesShape None s → (d : StructDef) → s ≡ struct_shape (shape_from t structs) d → ⊥
  unknown Incomplete h' d e = cc
  unknown (Scalar u w) h' d e = h'
  unknown (Record y n align fs) h' d e = h'
  unknown (Row e' n) h' d e = h'

  -- nothing in the table, and no struct
  pub no_definition : None ≡ get_by_text table x → struct_named all x ≡ None
  no_definition none =
      absent (struct_named all x) (λ d e.
      let f = found all x d e in
      let defined = layout_defined (record { target = t; structs = all }) h.layout f.place d f.here in
      unknown (structs x) (subst (λ o. DescribesShape o (structs x)) (sym none) (h.describes.at x)) d (ap structs (sym f.name) ∙ defined.shape))

  pub own_definition : (e : P.Places) → Some e ≡ get_by_text table x → (d : D.StructDef) → d ≡ get_or ds e.position d → Some (struct_def_of d) ≡ struct_named all x
  own_definition e found' d here =
      let at = named t ds table h x e found' in
      let name : string_bytes d.name ≡ x = subst (λ o. IfSome o (λ d'. string_bytes d'.name ≡ x)) (slice_get_read ds (length ds) e.position d refl at.1 here) at.0 in
      let seen = slice_get_read all (length all) e.position (struct_def_of d) refl (seen_within ds e.position at.1) (seen_here ds e.position d at.1 here) in
      subst (λ y. Some (struct_def_of d) ≡ struct_named all y) name (sym (unique t (λ y. Incomplete) [] all e.position (struct_def_of d) h.layout.built seen))
