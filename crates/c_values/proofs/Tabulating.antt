-- Putting the structs of a layout into a table, one after another.
use Rattle.std.proofs.Common.{◌≡◌, ℕ, ◌+◌, ◌<◌, ◌≤◌, Bool, true, false, cond, ◌&&◌, leb, List, [], ◌∷◌, ◌++◌, length, get_or, take, drop, map, refl, sym, ap, ◌∙◌, append_assoc, add-one, subst, arith}
use Rattle.std.proofs.lemmas.List.{append-nil, take_more, length-map, get_or-map, take_all}
use Rattle.std.proofs.Math.Seq.{drop-cons}
use Rattle.std.proofs.lemmas.Bool.{and_parts}
use Rattle.std.proofs.lemmas.Slice.Eq.{bytes_eq-Decides}
use Rattle.std.specs.Prelude.{Some, IfSome, string_bytes}
use Rattle.std.proofs.lemmas.Option.{slice_get_read}
use Rattle.std.specs.Str.{bytes_eq}
use Rattle.std.specs.HashMap.{get_by_text}
use Rattle.c_values.specs.Name.{Name, with_name}
use Rattle.c_values.specs.Types.{Target, CType}
use Rattle.c_values.specs.Layout.{Shape, Incomplete, size, StructDef, struct_shape, shape_from, shapes_after, are_built, are_small, all_members_complete, largest_size}
use Rattle.c_values.specs.declared.layouts.StructDef as D
use Rattle.c_values.specs.declared.places.Places as P
use Rattle.c_values.specs.CodeLayout.{struct_def_of, IsFirstLarge}
use Rattle.c_values.specs.CodeStructTable.{Table, Describes, DescribesShape, Finds, IsNamed, IsTabled}

abbrev none : Name → Shape
none x = Incomplete

-- the structs before some place are done: what is left is built from their shapes
pub record Tabulating (t : Target) (all : List StructDef) (i : ℕ) (structs : Name → Shape) : Type 0 where
  pub names : List Name
  pub built : are_built t structs names (drop i all) ≡ true
  pub small : (rest : List StructDef) → are_small t none (take i all ++ rest) ≡ are_small t structs rest
  pub shapes : (rest : List StructDef) → shapes_after t none (take i all ++ rest) ≡ shapes_after t structs rest

module _ (t : Target) (all : List StructDef) (i : ℕ) (structs : Name → Shape) (d : StructDef) (within : i < length all) (here : d ≡ get_or all i d) (h : Tabulating t all i structs) where
  abbrev pub after : Name → Shape
  after = with_name d.name (struct_shape (shape_from t structs) d) structs

  next : drop i all ≡ d ∷ drop (i + 1) all
  next = drop-cons all i d within ∙ rw (add-one, ← here) refl

  built_next : are_built t structs h.names (d ∷ drop (i + 1) all) ≡ true
  built_next = subst (λ ds. are_built t structs h.names ds ≡ true) next h.built

  before_more : (rest : List StructDef) → take (i + 1) all ++ rest ≡ take i all ++ (d ∷ rest)
  before_more rest =
      ap (λ xs. xs ++ rest) (take_more all i d within) ∙ append_assoc (take i all) (get_or all i d ∷ []) rest
      ∙ ap (λ x. take i all ++ x ∷ rest) (sym here)

  pub members_complete : all_members_complete (shape_from t structs) d.members ≡ true
  members_complete = (and_parts _ (all_members_complete (shape_from t structs) d.members) (and_parts _ (are_built t after (d.name ∷ h.names) (drop (i + 1) all)) built_next).0).1

  pub tabulating_more : leb (size (struct_shape (shape_from t structs) d)) largest_size ≡ true → Tabulating t all (i + 1) after
  tabulating_more fits = record {
    names = d.name ∷ h.names;
    built = (and_parts _ (are_built t after (d.name ∷ h.names) (drop (i + 1) all)) built_next).1;
    small = λ rest. ap (are_small t none) (before_more rest) ∙ h.small (d ∷ rest) ∙ ap (λ b. b && are_small t after rest) fits;
    shapes = λ rest. ap (shapes_after t none) (before_more rest) ∙ h.shapes (d ∷ rest);
  }

  pub first_large : leb (size (struct_shape (shape_from t structs) d)) largest_size ≡ false → IsFirstLarge t all i
  first_large large = record {
    is_struct = within;
    before = ap (are_small t none) (sym (append-nil (take i all))) ∙ h.small [];
    large = subst (λ n. are_small t none (take n all) ≡ false) (add-one i)
        (ap (are_small t none) (sym (append-nil (take (i + 1) all)) ∙ before_more []) ∙ h.small (d ∷ []) ∙ ap (λ b. b && are_small t after []) large);
  }

-- a table with one struct more
pub describes_more : (old new : Table) (structs : Name → Shape) (x : Name) (e : P.Places) (s : Shape) → Describes old structs → DescribesShape (Some e) s →
    ((y : Name) → get_by_text new y ≡ cond (bytes_eq x y) (Some e) (get_by_text old y)) → Describes new (with_name x s structs)
describes_more old new structs x e s h described looked = record { at = λ y. rw (looked y) (by_cases y (bytes_eq x y)) }
  where
    by_cases : (y : Name) (b : Bool) → DescribesShape (cond b (Some e) (get_by_text old y)) (cond b s (structs y))
    by_cases y true = described
    by_cases y false = h.at y

pub finds_more : (old new : Table) (ds : List D.StructDef) (x : Name) (e : P.Places) → Finds old ds → IsNamed ds x e.position →
    ((y : Name) → get_by_text new y ≡ cond (bytes_eq x y) (Some e) (get_by_text old y)) → Finds new ds
finds_more old new ds x e h named looked = record { at = λ y. rw (looked y) (by_cases y (bytes_eq x y) refl) }
  where
    by_cases : (y : Name) (b : Bool) → bytes_eq x y ≡ b → IfSome (cond b (Some e) (get_by_text old y)) (λ p. IsNamed ds y p.position)
    by_cases y true c = subst (λ z. IsNamed ds z e.position) ((bytes_eq-Decides x y).0 c) named
    by_cases y false c = h.at y

-- all structs are done
pub tabulated : (t : Target) (ds : List D.StructDef) (i : ℕ) (table : Table) (structs : Name → Shape) → length ds ≤ i → are_built t none [] (map struct_def_of ds) ≡ true →
    Tabulating t (map struct_def_of ds) i structs → Describes table structs → Finds table ds → IsTabled t ds table
tabulated t ds i table structs past built h described finds =
    let all = map struct_def_of ds in
    let whole : take i all ++ [] ≡ all = append-nil (take i all) ∙ take_all i all (rw length-map past) in
    record {
      layout = record { built = built; small = subst (λ x. are_small t none x ≡ true) whole (h.small []) };
      describes = subst (Describes table) (sym (h.shapes []) ∙ ap (shapes_after t none) whole) described;
      finds = finds;
    }

-- the struct at a place, as the definitions see it
pub seen_here : (ds : List D.StructDef) (i : ℕ) (d : D.StructDef) → i < length ds → d ≡ get_or ds i d → struct_def_of d ≡ get_or (map struct_def_of ds) i (struct_def_of d)
seen_here ds i d h e = ap struct_def_of e ∙ sym (get_or-map struct_def_of ds i d (struct_def_of d) h)

pub seen_within : (ds : List D.StructDef) (i : ℕ) → i < length ds → i < length (map struct_def_of ds)
seen_within ds i h = rw length-map h

pub fits : (m n k : ℕ) → m ≡ k → m ≤ n → leb k n ≡ true
fits m n k e h = grind arith

pub small_struct : (e : P.Places) (shape : CType → Shape) (d : StructDef) → DescribesShape (Some e) (struct_shape shape d) → leb (size (struct_shape shape d)) largest_size ≡ true
small_struct e shape d h = fits e.size largest_size (size (struct_shape shape d)) h.size e.small

pub named_here : (ds : List D.StructDef) (i : ℕ) (d : D.StructDef) → i < length ds → d ≡ get_or ds i d → IsNamed ds (string_bytes d.name) i
named_here ds i d h e = (rw (slice_get_read ds (length ds) i d refl h e) refl, h)
