-- In a layout each struct has the shape that its own definition gives it, by the shapes of all the structs.
use Rattle.std.proofs.Common.{◌≡◌, ℕ, zero, suc, ◌+◌, Bool, true, false, not, cond, List, [], ◌∷◌, refl, sym, ap, ◌∙◌, subst}
use Rattle.std.proofs.lemmas.Bool.{false≢true, and_parts, or_parts, not-true, cond-true, cond-false}
use Rattle.std.specs.Prelude.{Some, slice_get}
use Rattle.c_values.specs.Name.{Name, same_name, with_name, is_among}
use Rattle.c_values.specs.Types.{Target, CType, Struct, Array}
use Rattle.c_values.specs.Layout.{Layout, IsLayout, Shape, Incomplete, Record, Row, field, size, alignment, aligned, placed, end_of, widest, Member, StructDef, struct_shape, shape_from, shapes_after, is_complete, are_built, has_member, all_members_complete}
use Rattle.c_values.proofs.Laid.{same_name-refl, structs_of, OthersUnknown, name_is, other_name}

module _ (t : Target) where
  -- the struct has the shape of its definition, and its members are complete
  pub record IsDefined (structs : Name → Shape) (d : StructDef) : Type 0 where
    pub shape : structs d.name ≡ struct_shape (shape_from t structs) d
    pub complete : all_members_complete (shape_from t structs) d.members ≡ true

  abbrev pub AreDefined : (Name → Shape) → List StructDef → Type 0
  AreDefined structs [] = Unit {0}
  AreDefined structs (d ∷ ds) = IsDefined structs d × AreDefined structs ds

  -- one struct more, of a name that had none
  module _ (structs : Name → Shape) (x : Name) (s : Shape) (new : structs x ≡ Incomplete) where
    abbrev after : Name → Shape
    after = with_name x s structs

    -- a known struct keeps its shape
    same_struct : (y : Name) → (structs y ≡ Incomplete → ⊥) → after y ≡ structs y
    same_struct y known = by_cases (same_name x y) refl
      where
        by_cases : (b : Bool) → same_name x y ≡ b → cond b s (structs y) ≡ structs y
        by_cases true e = absurd (known (ap structs (sym (name_is x y e)) ∙ new))
        by_cases false e = refl

    complete_known : (y : Name) → is_complete (structs y) ≡ true → structs y ≡ Incomplete → ⊥
    complete_known y h e = false≢true (ap is_complete (sym e) ∙ h)

    same_shape : (u : CType) → is_complete (shape_from t structs u) ≡ true → shape_from t after u ≡ shape_from t structs u
    same_shape (Struct y) h = same_struct y (complete_known y h)
    same_shape (Array u n) h = ap (λ e. Row e n) (same_shape u (and_parts _ (is_complete (shape_from t structs u)) h).1)
    same_shape _ _ = refl

    same_placed : (at : ℕ) (ms : List Member) → all_members_complete (shape_from t structs) ms ≡ true → placed (shape_from t after) at ms ≡ placed (shape_from t structs) at ms
    same_placed at [] h = refl
    same_placed at (m ∷ ms) h =
        let p = and_parts (is_complete (shape_from t structs m.type)) (all_members_complete (shape_from t structs) ms) h in
        let old = shape_from t structs m.type in
        subst (λ r. field (aligned at (alignment r)) r (placed (shape_from t after) (aligned at (alignment r) + size r) ms) ≡ placed (shape_from t structs) at (m ∷ ms))
        (sym (same_shape m.type p.0))
        (ap (λ fs. field (aligned at (alignment old)) old fs) (same_placed (aligned at (alignment old) + size old) ms p.1))

    still_complete : (ms : List Member) → all_members_complete (shape_from t structs) ms ≡ true → all_members_complete (shape_from t after) ms ≡ true
    still_complete [] h = refl
    still_complete (m ∷ ms) h =
        let p = and_parts (is_complete (shape_from t structs m.type)) (all_members_complete (shape_from t structs) ms) h in
        rw (same_shape m.type p.0, p.0) (still_complete ms p.1)

    same_struct_shape : (d : StructDef) → all_members_complete (shape_from t structs) d.members ≡ true → struct_shape (shape_from t after) d ≡ struct_shape (shape_from t structs) d
    same_struct_shape d h = ap (λ fs. Record d.name (aligned (end_of 0 fs) (widest fs)) (widest fs) fs) (same_placed 0 d.members h)

    kept_defined : (d : StructDef) → IsDefined structs d → IsDefined after d
    kept_defined d h = record {
      shape = same_struct d.name (λ e. record_known (sym h.shape ∙ e)) ∙ h.shape ∙ sym (same_struct_shape d h.complete);
      complete = still_complete d.members h.complete;
    }
      where
        record_known : struct_shape (shape_from t structs) d ≡ Incomplete → ⊥
        record_known e = cc

  new_defined : (structs : Name → Shape) (d : StructDef) → structs d.name ≡ Incomplete → all_members_complete (shape_from t structs) d.members ≡ true →
      IsDefined (with_name d.name (struct_shape (shape_from t structs) d) structs) d
  new_defined structs d new h =
      let s = struct_shape (shape_from t structs) d in
      record {
        shape = cond-true (same_name d.name d.name) s (structs d.name) (same_name-refl d.name) ∙ sym (same_struct_shape structs d.name s new d h);
        complete = still_complete structs d.name s new d.members h;
      }

  unknown_more : (structs : Name → Shape) (names : List Name) (x : Name) (s : Shape) → OthersUnknown t structs names → OthersUnknown t (with_name x s structs) (x ∷ names)
  unknown_more structs names x s unknown y h =
      let p = or_parts (same_name y x) (is_among y names) h in
      cond-false (same_name x y) s (structs y) (other_name y x p.0) ∙ unknown y p.1

  -- what are_built says of the first struct
  record Begins (structs : Name → Shape) (names : List Name) (d : StructDef) (ds : List StructDef) : Type 0 where
    new : is_among d.name names ≡ false
    complete : all_members_complete (shape_from t structs) d.members ≡ true
    rest : are_built t (with_name d.name (struct_shape (shape_from t structs) d) structs) (d.name ∷ names) ds ≡ true

  begins : (structs : Name → Shape) (names : List Name) (d : StructDef) (ds : List StructDef) → are_built t structs names (d ∷ ds) ≡ true → Begins structs names d ds
  begins structs names d ds h =
      let p = and_parts _ (are_built t (with_name d.name (struct_shape (shape_from t structs) d) structs) (d.name ∷ names) ds) h in
      let q = and_parts _ (all_members_complete (shape_from t structs) d.members) p.0 in
      let r = and_parts (not (is_among d.name names)) (has_member d.members) q.0 in
      record { new = not-true _ r.0; complete = q.1; rest = p.1 }

  kept_through : (structs : Name → Shape) (names : List Name) (ds : List StructDef) (d : StructDef) → OthersUnknown t structs names → are_built t structs names ds ≡ true →
      IsDefined structs d → IsDefined (shapes_after t structs ds) d
  kept_through structs names [] d unknown h known = known
  kept_through structs names (e ∷ es) d unknown h known =
      let b = begins structs names e es h in
      let s = struct_shape (shape_from t structs) e in
      kept_through (with_name e.name s structs) (e.name ∷ names) es d (unknown_more structs names e.name s unknown) b.rest
      (kept_defined structs e.name s (unknown e.name b.new) d known)

  all_defined : (structs : Name → Shape) (names : List Name) (ds : List StructDef) → OthersUnknown t structs names → are_built t structs names ds ≡ true → AreDefined (shapes_after t structs ds) ds
  all_defined structs names [] unknown h = tt
  all_defined structs names (d ∷ ds) unknown h =
      let b = begins structs names d ds h in
      let s = struct_shape (shape_from t structs) d in
      let after' = with_name d.name s structs in
      let unknown' = unknown_more structs names d.name s unknown in
      (kept_through after' (d.name ∷ names) ds d unknown' b.rest (new_defined structs d (unknown d.name b.new) b.complete), all_defined after' (d.name ∷ names) ds unknown' b.rest)

  defined_at : (structs : Name → Shape) (ds : List StructDef) (k : ℕ) (d : StructDef) → AreDefined structs ds → slice_get ds k ≡ Some d → IsDefined structs d
  defined_at structs [] k d h e = absurd cc
  defined_at structs (d' ∷ ds) zero d h e = let same : d' ≡ d = cc in subst (IsDefined structs) same h.0
  defined_at structs (d' ∷ ds) (suc k) d h e = defined_at structs ds k d h.1 e

-- a struct of a layout
pub layout_defined : (l : Layout) → IsLayout l → (k : ℕ) (d : StructDef) → slice_get l.structs k ≡ Some d → IsDefined l.target (structs_of l) d
layout_defined l h k d e =
    defined_at l.target (structs_of l) l.structs k d (all_defined l.target (λ x. Incomplete) [] l.structs (λ x c. refl) h.built) e
