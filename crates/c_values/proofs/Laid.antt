-- The shapes of a layout's complete types are formed, and each struct in them is the layout's struct of that name.
use Rattle.std.proofs.Common.{◌≡◌, ℕ, ◌+◌, ◌⊎◌, inl, inr, Bool, true, false, not, cond, List, [], ◌∷◌, refl, sym, ap, ◌∙◌}
use Rattle.std.proofs.lemmas.Bool.{false≢true, true≢false, and_parts, or_parts, cases_Bool, not-true, ltb-true, false_from_ne_true, cond-true, cond-false}
use Rattle.std.proofs.lemmas.Slice.Eq.{bytes_eq-Decides}
use Rattle.c_values.specs.Name.{Name, same_name, with_name, is_among}
use Rattle.c_values.specs.Types.{Target, Ilp32, Lp64, CType, Integer, Void, Ptr, Struct, Array, IntType, Char, SChar, UChar, Short, UShort, Int, UInt, Long, ULong, LLong, ULLong, width_of, address_width}
use Rattle.c_values.specs.Layout.{Layout, IsLayout, Shape, type_of, Incomplete, Scalar, Record, Row, Fields, no_fields, field, size, alignment, aligned, placed, Member, StructDef, struct_shape, shape_from, shapes_after, shape_of, is_complete, are_built, all_members_complete, has_member, is_scalar, scalar_width}
use Rattle.c_values.proofs.Formed.{IsFormed}
use Rattle.c_values.proofs.Placed.{struct_formed}

pointer_formed : (t : Target) (u : CType) → IsFormed (Scalar u (address_width t))
pointer_formed Ilp32 u = record { whole = refl; bytes = inr (inr (inl refl)) }
pointer_formed Lp64 u = record { whole = refl; bytes = inr (inr (inr refl)) }

pub integer_formed : (t : Target) (i : IntType) → IsFormed (Scalar (Integer i) (width_of t i))
integer_formed t Char = record { whole = refl; bytes = inl refl }
integer_formed t SChar = record { whole = refl; bytes = inl refl }
integer_formed t UChar = record { whole = refl; bytes = inl refl }
integer_formed t Short = record { whole = refl; bytes = inr (inl refl) }
integer_formed t UShort = record { whole = refl; bytes = inr (inl refl) }
integer_formed t Int = record { whole = refl; bytes = inr (inr (inl refl)) }
integer_formed t UInt = record { whole = refl; bytes = inr (inr (inl refl)) }
integer_formed t Long = pointer_formed t (Integer Long)
integer_formed t ULong = pointer_formed t (Integer ULong)
integer_formed t LLong = record { whole = refl; bytes = inr (inr (inr refl)) }
integer_formed t ULLong = record { whole = refl; bytes = inr (inr (inr refl)) }

pub name_is : (x y : Name) → same_name x y ≡ true → x ≡ y
name_is x y = (bytes_eq-Decides x y).0

pub same_name-refl : (x : Name) → same_name x x ≡ true
same_name-refl x = (bytes_eq-Decides x x).1 refl

pub other_name : (x y : Name) → same_name x y ≡ false → same_name y x ≡ false
other_name x y h = false_from_ne_true (same_name y x) (λ e. true≢false (sym ((bytes_eq-Decides x y).1 (sym (name_is y x e))) ∙ h))

module _ (t : Target) where
  abbrev mutual
    -- each scalar has its width, and each struct is the one of its name
    pub IsLaid : (Name → Shape) → Shape → Type 0
    IsLaid structs Incomplete = ⊥
    IsLaid structs (Scalar u width) = record { scalar : is_scalar u ≡ true; wide : scalar_width t u ≡ width }
    IsLaid structs (Record x n align fs) = record { known : structs x ≡ Record x n align fs; members : AreLaid structs fs }
    IsLaid structs (Row e n) = IsLaid structs e

    pub AreLaid : (Name → Shape) → Fields → Type 0
    AreLaid structs no_fields = Unit {0}
    AreLaid structs (field at s fs) = record { first : IsLaid structs s; others : AreLaid structs fs }

  -- a shape that a layout gives a complete type
  pub record IsGood (structs : Name → Shape) (s : Shape) : Type 0 where
    pub formed : IsFormed s
    pub laid : IsLaid structs s

  -- each complete struct is good, and is of the name by which it is found
  abbrev pub AllGood : (Name → Shape) → Type 0
  AllGood structs = (x : Name) → is_complete (structs x) ≡ true → IsGood structs (structs x) × (type_of (structs x) ≡ Struct x)

  integer_good : (structs : Name → Shape) (i : IntType) → IsGood structs (Scalar (Integer i) (width_of t i))
  integer_good structs i = record { formed = integer_formed t i; laid = record { scalar = refl; wide = refl } }

  pub type_back : (structs : Name → Shape) → AllGood structs → (u : CType) → is_complete (shape_from t structs u) ≡ true → type_of (shape_from t structs u) ≡ u
  type_back structs all (Struct x) h = (all x h).1
  type_back structs all (Array u n) h = ap (λ e. Array e n) (type_back structs all u (and_parts _ (is_complete (shape_from t structs u)) h).1)
  type_back _ _ _ _ = refl

  pub type_good : (structs : Name → Shape) → AllGood structs → (u : CType) → is_complete (shape_from t structs u) ≡ true → IsGood structs (shape_from t structs u)
  type_good structs all (Integer i) h = integer_good structs i
  type_good structs all Void h = absurd (false≢true h)
  type_good structs all (Ptr u) h = record { formed = pointer_formed t u; laid = record { scalar = refl; wide = refl } }
  type_good structs all (Struct x) h = (all x h).0
  type_good structs all (Array u n) h =
      let p = and_parts _ (is_complete (shape_from t structs u)) h in
      let g = type_good structs all u p.1 in
      record { formed = record { some = ltb-true 0 n p.0; element = g.formed }; laid = g.laid }

  -- what names a struct still names it
  abbrev Keeps : (Name → Shape) → (Name → Shape) → Type 0
  Keeps structs structs' = (x : Name) (n align : ℕ) (fs : Fields) → structs x ≡ Record x n align fs → structs' x ≡ Record x n align fs

  mutual
    kept : (structs structs' : Name → Shape) → Keeps structs structs' → (s : Shape) → IsLaid structs s → IsLaid structs' s
    kept structs structs' k Incomplete h = absurd h
    kept structs structs' k (Scalar u width) h = record { scalar = h.scalar; wide = h.wide }
    kept structs structs' k (Record x n align fs) h = record { known = k x n align fs h.known; members = all_kept structs structs' k fs h.members }
    kept structs structs' k (Row e n) h = kept structs structs' k e h

    all_kept : (structs structs' : Name → Shape) → Keeps structs structs' → (fs : Fields) → AreLaid structs fs → AreLaid structs' fs
    all_kept structs structs' k no_fields h = tt
    all_kept structs structs' k (field at s fs) h = record { first = kept structs structs' k s h.first; others = all_kept structs structs' k fs h.others }

  keeps : (structs : Name → Shape) (x : Name) (s : Shape) → structs x ≡ Incomplete → Keeps structs (with_name x s structs)
  keeps structs x s e y n align fs h = by_cases (cases_Bool (same_name x y))
    where
      by_cases : (same_name x y ≡ true) ⊎ (same_name x y ≡ false) → with_name x s structs y ≡ Record y n align fs
      by_cases (inl c) =
          let clash : Incomplete ≡ Record y n align fs = sym e ∙ ap structs (name_is x y c) ∙ h in
          cc
      by_cases (inr c) = cond-false (same_name x y) s (structs y) c ∙ h

  members_laid : (structs : Name → Shape) → AllGood structs → (at : ℕ) (ms : List Member) → all_members_complete (shape_from t structs) ms ≡ true → AreLaid structs (placed (shape_from t structs) at ms)
  members_laid structs all at [] h = tt
  members_laid structs all at (m ∷ ms) h =
      let p = and_parts (is_complete (shape_from t structs m.type)) (all_members_complete (shape_from t structs) ms) h in
      record { first = (type_good structs all m.type p.0).laid; others = members_laid structs all (aligned at (alignment (shape_from t structs m.type)) + size (shape_from t structs m.type)) ms p.1 }

  abbrev pub OthersUnknown : (Name → Shape) → List Name → Type 0
  OthersUnknown structs names = (x : Name) → is_among x names ≡ false → structs x ≡ Incomplete

  -- one struct more
  module _ (structs : Name → Shape) (names : List Name) (d : StructDef) (all : AllGood structs) (unknown : OthersUnknown structs names)
      (new : is_among d.name names ≡ false) (some : has_member d.members ≡ true) (complete : all_members_complete (shape_from t structs) d.members ≡ true) where
    abbrev after : Name → Shape
    after = with_name d.name (struct_shape (shape_from t structs) d) structs

    struct_good : IsGood after (struct_shape (shape_from t structs) d)
    struct_good = record {
      formed = struct_formed (shape_from t structs) (λ u h. (type_good structs all u h).formed) d some complete;
      laid = record {
        known = cond-true (same_name d.name d.name) _ (structs d.name) (same_name-refl d.name);
        members = all_kept structs after (keeps structs d.name _ (unknown d.name new)) _ (members_laid structs all 0 d.members complete);
      };
    }

    still_good : (s : Shape) → IsGood structs s → IsGood after s
    still_good s g = record { formed = g.formed; laid = kept structs after (keeps structs d.name _ (unknown d.name new)) s g.laid }

    good_after : AllGood after
    good_after x h = by_cases (same_name d.name x) refl h
      where
        found : Bool → Shape
        found b = cond b (struct_shape (shape_from t structs) d) (structs x)

        by_cases : (b : Bool) → same_name d.name x ≡ b → is_complete (found b) ≡ true → IsGood after (found b) × (type_of (found b) ≡ Struct x)
        by_cases true e h' = (struct_good, ap (λ y. Struct y) (name_is d.name x e))
        by_cases false e h' = let g = all x h' in (still_good (structs x) g.0, g.1)

    unknown_after : OthersUnknown after (d.name ∷ names)
    unknown_after x h =
        let p = or_parts (same_name x d.name) (is_among x names) h in
        cond-false (same_name d.name x) _ (structs x) (other_name x d.name p.0) ∙ unknown x p.1

  all_good : (structs : Name → Shape) (names : List Name) (ds : List StructDef) → AllGood structs → OthersUnknown structs names → are_built t structs names ds ≡ true → AllGood (shapes_after t structs ds)
  all_good structs names [] all unknown h = all
  all_good structs names (d ∷ ds) all unknown h =
      let after' = with_name d.name (struct_shape (shape_from t structs) d) structs in
      let p = and_parts _ (are_built t after' (d.name ∷ names) ds) h in
      let q = and_parts _ (all_members_complete (shape_from t structs) d.members) p.0 in
      let r = and_parts (not (is_among d.name names)) (has_member d.members) q.0 in
      all_good after' (d.name ∷ names) ds
      (good_after structs names d all unknown (not-true _ r.0) r.1 q.1)
      (unknown_after structs names d all unknown (not-true _ r.0) r.1 q.1) p.1

abbrev pub structs_of : Layout → Name → Shape
structs_of l = shapes_after l.target (λ x. Incomplete) l.structs

pub layout_good : (l : Layout) → IsLayout l → AllGood l.target (structs_of l)
layout_good l h = all_good l.target (λ x. Incomplete) [] l.structs (λ x c. absurd (false≢true c)) (λ x c. refl) h.built

-- the shape of a complete type
pub shape_good : (l : Layout) → IsLayout l → (u : CType) → is_complete (shape_of l u) ≡ true → IsGood l.target (structs_of l) (shape_of l u)
shape_good l h u c = type_good l.target (structs_of l) (layout_good l h) u c

pub shape_type : (l : Layout) → IsLayout l → (u : CType) → is_complete (shape_of l u) ≡ true → type_of (shape_of l u) ≡ u
shape_type l h u c = type_back l.target (structs_of l) (layout_good l h) u c
