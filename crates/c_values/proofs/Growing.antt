-- One struct more behind those of a layout.
use Rattle.std.proofs.Common.{◌≡◌, ℕ, zero, suc, true, false, not, cond, ◌&&◌, leb, List, [], ◌∷◌, ◌++◌, length, map, refl, sym, ap, ◌∙◌, subst, arith}
use Rattle.std.proofs.lemmas.Bool.{and_parts, cond-true, and_from, or_parts, not-true, and_right}
use Rattle.std.proofs.lemmas.List.{map-append}
use Rattle.std.specs.Str.{bytes_eq}
use Rattle.std.specs.HashMap.{get_by_text}
use Rattle.std.specs.Prelude.{Option, Some, None, IfSome, string_bytes}
use Rattle.c_values.specs.Name.{Name, same_name, with_name, is_among}
use Rattle.c_values.specs.Types.{Target, Struct}
use Rattle.c_values.specs.Layout.{Layout, Shape, Incomplete, size, StructDef, struct_shape, shape_from, shapes_after, shape_of, is_object, is_complete, are_built, are_small, has_member, all_members_complete, largest_size}
use Rattle.c_values.specs.Growth.{with_struct, struct_names, can_follow}
use Rattle.c_values.specs.declared.layouts.StructDef as D
use Rattle.c_values.specs.declared.places.Places as P
use Rattle.c_values.specs.CodeLayout.{struct_def_of}
use Rattle.c_values.specs.CodeStructTable.{Table, Describes, DescribesShape, Finds, IsNamed, IsTabled, IsPlacement}
use Rattle.c_values.proofs.Laid.{same_name-refl}
use Rattle.c_values.proofs.Tabulating.{describes_more, finds_more, small_struct, fits as is_fitting}

abbrev none : Name → Shape
none x = Incomplete

pub shapes_more : (t : Target) (structs : Name → Shape) (ds : List StructDef) (d : StructDef) →
    shapes_after t structs (ds ++ (d ∷ [])) ≡ with_name d.name (struct_shape (shape_from t (shapes_after t structs ds)) d) (shapes_after t structs ds)
shapes_more t structs [] d = refl
shapes_more t structs (e ∷ es) d = shapes_more t (with_name e.name (struct_shape (shape_from t structs) e) structs) es d

pub small_more : (t : Target) (structs : Name → Shape) (ds : List StructDef) (d : StructDef) → are_small t structs ds ≡ true →
    leb (size (struct_shape (shape_from t (shapes_after t structs ds)) d)) largest_size ≡ true → are_small t structs (ds ++ (d ∷ [])) ≡ true
small_more t structs [] d h fits = rw fits refl
small_more t structs (e ∷ es) d h fits =
    let after = with_name e.name (struct_shape (shape_from t structs) e) structs in
    let p = and_parts (leb (size (struct_shape (shape_from t structs) e)) largest_size) (are_small t after es) h in
    rw (p.0) (small_more t after es d p.1 fits)

pub built_more : (t : Target) (structs : Name → Shape) (names : List Name) (ds : List StructDef) (d : StructDef) → are_built t structs names ds ≡ true →
    is_among d.name names ≡ false → is_among d.name (map (λ e. e.name) ds) ≡ false → has_member d.members ≡ true →
    all_members_complete (shape_from t (shapes_after t structs ds)) d.members ≡ true → are_built t structs names (ds ++ (d ∷ [])) ≡ true
built_more t structs names [] d h apart new some complete = rw (apart, some, complete) refl
built_more t structs names (e ∷ es) d h apart new some complete =
    let after = with_name e.name (struct_shape (shape_from t structs) e) structs in
    let first = not (is_among e.name names) && has_member e.members && all_members_complete (shape_from t structs) e.members in
    let p = and_parts first (are_built t after (e.name ∷ names) es) h in
    let q = or_parts (same_name d.name e.name) (is_among d.name (map (λ e'. e'.name) es)) new in
    let apart' : is_among d.name (e.name ∷ names) ≡ false = rw (q.0, apart) refl in
    and_from first (are_built t after (e.name ∷ names) (es ++ (d ∷ []))) p.0 (built_more t after (e.name ∷ names) es d p.1 apart' q.1 some complete)

named_longer : (ds es : List D.StructDef) (x : Name) (k : ℕ) → IsNamed ds x k → IsNamed (ds ++ es) x k
named_longer [] es x k h = absurd (omega (arith, h.1))
named_longer (d ∷ ds) es x zero h = (h.0, omega arith)
named_longer (d ∷ ds) es x (suc k) h =
    let shorter : IsNamed ds x k = (h.0, omega (arith, h.1)) in
    let r = named_longer ds es x k shorter in
    (r.0, omega (arith, r.1))

named_last : (ds : List D.StructDef) (d : D.StructDef) → IsNamed (ds ++ (d ∷ [])) (string_bytes d.name) (length ds)
named_last [] d = (refl, omega arith)
named_last (e ∷ es) d = let r = named_last es d in (r.0, omega (arith, r.1))

record Follows (t : Target) (ds : List StructDef) (d : StructDef) : Type 0 where
  new : is_among d.name (map (λ e. e.name) ds) ≡ false
  some : has_member d.members ≡ true
  complete : all_members_complete (shape_from t (shapes_after t none ds)) d.members ≡ true

follows : (l : Layout) (d : StructDef) → can_follow l d ≡ true → Follows l.target l.structs d
follows l d h =
    let p = and_parts (not (is_among d.name (struct_names l)) && has_member d.members) (all_members_complete (shape_of l) d.members) h in
    let q = and_parts (not (is_among d.name (struct_names l))) (has_member d.members) p.0 in
    record { new = not-true (is_among d.name (struct_names l)) q.0; some = q.1; complete = p.1 }

pub complete_members : (l : Layout) (d : StructDef) → can_follow l d ≡ true → all_members_complete (shape_of l) d.members ≡ true
complete_members l d h = (follows l d h).complete

-- the table of the longer list
pub tabled_more : (t : Target) (ds : List D.StructDef) (d : D.StructDef) (old new : Table) (e : P.Places) → IsTabled t ds old →
    can_follow (record { target = t; structs = map struct_def_of ds }) (struct_def_of d) ≡ true →
    IsPlacement (Some e) (struct_shape (shape_from t (shapes_after t (λ x. Incomplete) (map struct_def_of ds))) (struct_def_of d)) (length ds) →
    ((y : Name) → get_by_text new y ≡ cond (bytes_eq (string_bytes d.name) y) (Some e) (get_by_text old y)) →
    IsTabled t (ds ++ (d ∷ [])) new
tabled_more t ds d old new e h can placed looked =
    let all = map struct_def_of ds in
    let structs = shapes_after t none all in
    let own = struct_def_of d in
    let s = struct_shape (shape_from t structs) own in
    let f = follows (record { target = t; structs = all }) own can in
    let longer : map struct_def_of (ds ++ (d ∷ [])) ≡ all ++ (own ∷ []) = map-append struct_def_of ds (d ∷ []) in
    let fits = small_struct e (shape_from t structs) own placed.0 in
    let kept : Finds old (ds ++ (d ∷ [])) = record { at = λ x. still x (get_by_text old x) (h.finds.at x) } in
    record {
      layout = record {
        built = subst (λ es. are_built t none [] es ≡ true) (sym longer) (built_more t none [] all own h.layout.built refl f.new f.some f.complete);
        small = subst (λ es. are_small t none es ≡ true) (sym longer) (small_more t none all own h.layout.small fits);
      };
      describes = subst (Describes new) (sym (ap (shapes_after t none) longer ∙ shapes_more t none all own))
          (describes_more old new structs own.name e s h.describes placed.0 looked);
      finds = finds_more old new (ds ++ (d ∷ [])) own.name e kept
          (subst (λ k. IsNamed (ds ++ (d ∷ [])) own.name k) (sym placed.1) (named_last ds d)) looked;
    }
  where
    still : (x : Name) (o : Option P.Places) → IfSome o (λ p. IsNamed ds x p.position) → IfSome o (λ p. IsNamed (ds ++ (d ∷ [])) x p.position)
    still x None h' = tt
    still x (Some p) h' = named_longer ds (d ∷ []) x p.position h'

-- the shape of the last struct
last_shape : (l : Layout) (d : StructDef) → shape_of (with_struct l d) (Struct d.name) ≡ struct_shape (shape_of l) d
last_shape l d =
    ap (λ f. f d.name) (shapes_more l.target none l.structs d)
    ∙ cond-true (same_name d.name d.name) (struct_shape (shape_of l) d) (shapes_after l.target none l.structs d.name) (same_name-refl d.name)

pub last_is_object : (l : Layout) (d : StructDef) (e : P.Places) → DescribesShape (Some e) (struct_shape (shape_of l) d) → is_object (with_struct l d) (Struct d.name) ≡ true
last_is_object l d e h =
    rw (last_shape l d) (and_from (is_complete (struct_shape (shape_of l) d)) (leb (size (struct_shape (shape_of l) d)) largest_size) h.complete
    (is_fitting e.size largest_size (size (struct_shape (shape_of l) d)) h.size e.small))

pub last_is_large : (l : Layout) (d : StructDef) → leb (size (struct_shape (shape_of l) d)) largest_size ≡ false → is_object (with_struct l d) (Struct d.name) ≡ false
last_is_large l d h = rw (last_shape l d) (and_right (is_complete (struct_shape (shape_of l) d)) (leb (size (struct_shape (shape_of l) d)) largest_size) h)
