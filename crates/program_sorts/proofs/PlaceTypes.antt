-- Whether a value fits a place, asked of types: the sort of a part is that of its type, and a value's parts are those of a
-- complete type.
use Rattle.std.proofs.Common.{◌≡◌, ℕ, nat_lt, ◌⊎◌, inl, inr, Bool, true, false, cond, List, [], ◌∷◌, Option, Some, None, refl, sym, ap, subst, ◌∙◌}
use Rattle.std.proofs.lemmas.Bool.{and_parts, and_from, false≢true, true≢false, cases_Bool, false_from_ne_true}
use Rattle.c_values.specs.Name.{Name, same_name, with_name}
use Rattle.c_values.specs.Types.{Target, CType, Void, Struct, Array, same_type}
use Rattle.c_values.specs.Layout.{Layout, IsLayout, StructDef, Shape, Incomplete, Scalar, Record, Row, type_of, shape_of, shape_from, shapes_after, struct_shape, is_complete}
use Rattle.c_values.proofs.Laid.{name_is, shape_type, structs_of}
use Rattle.c_values.specs.CodeSameType.{type_is, same_type-refl}
use Rattle.expression_lang.specs.Sort as S
use Rattle.expression_lang.specs.Sort.{Sort, Of, PartsSort, are_same, sort_at}
use Rattle.expression_lang.specs.Sorted.{fits_place}
use Rattle.expression_lang.proofs.Sorting.{struct_is, IsStructShape, struct_sort, array_sort}
use Rattle.program_sorts.specs.CodeSorts.{HasCompleteParts}

-- the shape of a struct of the name, or of one without a body
abbrev IsNamed : Name → Shape → Type 0
IsNamed x Incomplete = Unit {0}
IsNamed x (Scalar t width) = ⊥
IsNamed x (Record y n align fs) = y ≡ x
IsNamed x (Row e n) = ⊥

named_by : (b : Bool) (x : Name) (s r : Shape) → (b ≡ true → IsNamed x s) → IsNamed x r → IsNamed x (cond b s r)
named_by true x s r h k = h refl
named_by false x s r h k = k

structs_named : (t : Target) (structs : Name → Shape) (ds : List StructDef) → ((x : Name) → IsNamed x (structs x)) → (x : Name) → IsNamed x (shapes_after t structs ds x)
structs_named t structs [] h x = h x
structs_named t structs (d ∷ ds) h x =
    structs_named t (with_name d.name (struct_shape (shape_from t structs) d) structs) ds
    (λ y. named_by (same_name d.name y) y (struct_shape (shape_from t structs) d) (structs y) (λ e. name_is d.name y e) (h y)) x

-- A type is complete if what its shape says of it is.
module _ (t : Target) (structs : Name → Shape) (named : (x : Name) → IsNamed x (structs x)) where
  struct_back : (x : Name) (s : Shape) → structs x ≡ s → IsNamed x s → is_complete (shape_from t structs (type_of s)) ≡ true → is_complete s ≡ true
  struct_back x Incomplete e k h = absurd (false≢true h)
  struct_back x (Record y n align fs) e k h = subst (λ s. is_complete s ≡ true) (ap structs k ∙ e) h
  struct_back _ _ _ k _ = absurd k

  complete_back : (u : CType) → is_complete (shape_from t structs (type_of (shape_from t structs u))) ≡ true → is_complete (shape_from t structs u) ≡ true
  complete_back Void h = absurd (false≢true h)
  complete_back (Struct x) h = struct_back x (structs x) refl (named x) h
  complete_back (Array u n) h =
      let p = and_parts (nat_lt 0 n) (is_complete (shape_from t structs (type_of (shape_from t structs u)))) h in
      and_from (nat_lt 0 n) (is_complete (shape_from t structs u)) p.0 (complete_back u p.1)
  complete_back _ _ = refl

module _ (l : Layout) (h : IsLayout l) where
  back : (u : CType) → is_complete (shape_of l (type_of (shape_of l u))) ≡ true → is_complete (shape_of l u) ≡ true
  back u k = complete_back l.target (structs_of l) (structs_named l.target (λ x. Incomplete) l.structs (λ x. tt)) u k

  -- what fits is of the type
  type_is_part : (u t : CType) (s : Shape) → s ≡ shape_of l u → is_complete (shape_of l t) ≡ true → same_type (type_of s) t ≡ true → same_type u t ≡ true
  type_is_part u t s e c same =
      let is : type_of (shape_of l u) ≡ t = ap type_of (sym e) ∙ type_is (type_of s) t same in
      let whole = back u (subst (λ v. is_complete (shape_of l v) ≡ true) (sym is) c) in
      subst (λ v. same_type u v ≡ true) (sym (shape_type l h u whole) ∙ is) (same_type-refl u)

  type_fits : (u t : CType) (s : Shape) → s ≡ shape_of l u → is_complete (shape_of l t) ≡ true → fits_place (sort_at s) (Some (PartsSort t)) ≡ true → same_type u t ≡ true
  type_fits u t (Record x n align fs) e c f = type_is_part u t (Record x n align fs) e c f
  type_fits u t (Row r n) e c f = type_is_part u t (Row r n) e c f
  type_fits _ _ _ _ _ f = absurd (false≢true f)

  -- the same the other way round, where the part's type has this sort
  fits_type : (u t : CType) → (is_complete (shape_of l u) ≡ true → ◌≡◌ {A = Option Sort} (Some (PartsSort u)) (sort_at (shape_of l u))) → is_complete (shape_of l t) ≡ true →
      same_type u t ≡ fits_place (sort_at (shape_of l u)) (Some (PartsSort t))
  fits_type u t sort c = by_cases (cases_Bool (same_type u t))
    where
      by_cases : (same_type u t ≡ true) ⊎ (same_type u t ≡ false) → same_type u t ≡ fits_place (sort_at (shape_of l u)) (Some (PartsSort t))
      by_cases (inl e) = ap (λ o. fits_place o (Some (PartsSort t))) (sort (subst (λ v. is_complete (shape_of l v) ≡ true) (sym (type_is u t e)) c))
      by_cases (inr e) = e ∙ sym (false_from_ne_true (fits_place (sort_at (shape_of l u)) (Some (PartsSort t))) (λ k. true≢false (sym (type_fits u t (shape_of l u) refl c k) ∙ e)))

nothing_fits : (o : Option Sort) → fits_place o None ≡ false
nothing_fits None = refl
nothing_fits (Some s) = refl

no_scalar : (s : Shape) (a : S.Scalar) → IsStructShape s → fits_place (sort_at s) (Some (Of a)) ≡ false
no_scalar (Scalar t width) a h = absurd h
no_scalar (Row e n) a h = absurd h
no_scalar _ _ _ = refl

-- the same of any sort of a value
parts_fit : (l : Layout) (u : CType) (o : Option Sort) → ((a : S.Scalar) → fits_place (sort_at (shape_of l u)) (Some (Of a)) ≡ false) →
    ((t : CType) → is_complete (shape_of l t) ≡ true → same_type u t ≡ fits_place (sort_at (shape_of l u)) (Some (PartsSort t))) →
    HasCompleteParts l o → are_same (Some (PartsSort u)) o ≡ fits_place (sort_at (shape_of l u)) o
parts_fit l u None a p c = sym (nothing_fits (sort_at (shape_of l u)))
parts_fit l u (Some (Of s)) a p c = sym (a s)
parts_fit l u (Some (PartsSort t)) a p c = p t c

pub struct_fits : (l : Layout) (x : Name) (o : Option Sort) → IsLayout l → HasCompleteParts l o →
    are_same (Some (PartsSort (Struct x))) o ≡ fits_place (sort_at (shape_of l (Struct x))) o
struct_fits l x o h c =
    parts_fit l (Struct x) o (λ a. no_scalar (shape_of l (Struct x)) a (struct_is l x)) (λ t k. fits_type l h (Struct x) t (struct_sort l x h) k) c

pub array_fits : (l : Layout) (u : CType) (n : ℕ) (o : Option Sort) → IsLayout l → HasCompleteParts l o →
    are_same (Some (PartsSort (Array u n))) o ≡ fits_place (sort_at (shape_of l (Array u n))) o
array_fits l u n o h c = parts_fit l (Array u n) o (λ a. refl) (λ t k. fits_type l h (Array u n) t (array_sort l u n h) k) c
