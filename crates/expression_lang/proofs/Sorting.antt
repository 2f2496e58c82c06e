-- Sorts of parts.
use Rattle.std.proofs.Common.{◌≡◌, ℕ, ◌^◌, zero, suc, ◌<◌, nat_lt, Bool, true, false, cond, ◌&&◌, List, [], ◌∷◌, Option, Some, None, inl, inr, refl, sym, ap, ◌∙◌, subst}
use Rattle.std.proofs.lemmas.Bool.{and_parts, and_from, lt-ltb, false≢true}
use Rattle.std.specs.Prelude.{IfSome}
use Rattle.c_values.specs.Name.{Name, same_name, with_name}
use Rattle.c_values.specs.Types.{Target, CType, Struct, Array}
use Rattle.c_values.specs.Width.{IsWidth}
use Rattle.c_values.specs.Layout.{Layout, IsLayout, StructDef, Shape, Incomplete, Scalar, Record, Row, Fields, no_fields, field, type_of, shape_of, shape_from, shapes_after, struct_shape, is_complete, are_complete, is_object}
use Rattle.c_values.specs.Path.{Spot, member_spot}
use Rattle.c_values.proofs.Laid.{shape_type}
use Rattle.expression_lang.specs.Expression.{Path, Here, IntoField, IntoElement}
use Rattle.expression_lang.specs.CodeAlong.{element_in}
use Rattle.expression_lang.specs.Sort.{Sort, PartsSort, Scope, is_width, is_number, sort_of, sort_at, shape_along, shape_in, where_holds, word_sort}

-- a struct's shape, or that of what has no body
abbrev pub IsStructShape : Shape → Type 0
IsStructShape Incomplete = Unit {0}
IsStructShape (Record x n align fs) = Unit {0}
IsStructShape (Scalar t width) = ⊥
IsStructShape (Row e n) = ⊥

named_shape : (b : Bool) (s r : Shape) → IsStructShape s → IsStructShape r → IsStructShape (cond b s r)
named_shape true s r h k = h
named_shape false s r h k = k

structs_are : (t : Target) (structs : Name → Shape) (ds : List StructDef) → ((x : Name) → IsStructShape (structs x)) → (x : Name) → IsStructShape (shapes_after t structs ds x)
structs_are t structs [] h x = h x
structs_are t structs (d ∷ ds) h x =
    structs_are t (with_name d.name (struct_shape (shape_from t structs) d) structs) ds
    (λ y. named_shape (same_name d.name y) (struct_shape (shape_from t structs) d) (structs y) tt (h y)) x

pub struct_is : (l : Layout) (x : Name) → IsStructShape (shape_of l (Struct x))
struct_is l x = structs_are l.target (λ y. Incomplete) l.structs (λ y. tt) x

no_element : (s : Shape) → IsStructShape s → element_in s ≡ None
no_element (Scalar t width) h = absurd h
no_element (Row e n) h = absurd h
no_element _ _ = refl

pub struct_element : (l : Layout) (x : Name) → element_in (shape_of l (Struct x)) ≡ None
struct_element l x = no_element (shape_of l (Struct x)) (struct_is l x)

parts_sort_at : (s : Shape) (x : Name) → IsStructShape s → is_complete s ≡ true → type_of s ≡ Struct x → ◌≡◌ {A = Option Sort} (Some (PartsSort (Struct x))) (sort_at s)
parts_sort_at Incomplete x h c e = absurd (false≢true c)
parts_sort_at (Record y n align fs) x h c e = ap (λ t. Some (PartsSort t)) (sym e)
parts_sort_at _ _ h _ _ = absurd h

pub struct_sort : (l : Layout) (x : Name) → IsLayout l → is_complete (shape_of l (Struct x)) ≡ true → ◌≡◌ {A = Option Sort} (Some (PartsSort (Struct x))) (sort_at (shape_of l (Struct x)))
struct_sort l x h c = parts_sort_at (shape_of l (Struct x)) x (struct_is l x) c (shape_type l h (Struct x) c)

pub array_sort : (l : Layout) (u : CType) (n : ℕ) → IsLayout l → is_complete (shape_of l (Array u n)) ≡ true → ◌≡◌ {A = Option Sort} (Some (PartsSort (Array u n))) (sort_at (shape_of l (Array u n)))
array_sort l u n h c = ap (λ t. Some (PartsSort t)) (sym (shape_type l h (Array u n) c))

-- what a part of a complete shape is
member_complete : (fs : Fields) (k : ℕ) (q : Spot) → are_complete fs ≡ true → member_spot fs k ≡ Some q → is_complete q.shape ≡ true
member_complete no_fields k q c e = absurd cc
member_complete (field at s fs) zero q c e =
    let same : s ≡ q.shape = cc in
    subst (λ r. is_complete r ≡ true) same (and_parts (is_complete s) (are_complete fs) c).0
member_complete (field at s fs) (suc k) q c e = member_complete fs k q (and_parts (is_complete s) (are_complete fs) c).1 e

pub along_complete : (g : Scope) (path : Path) (s q : Shape) → shape_along g path s ≡ Some q → is_complete s ≡ true → is_complete q ≡ true
along_complete g Here s q e c = let same : s ≡ q = cc in subst (λ r. is_complete r ≡ true) same c
along_complete g (IntoField k path) (Record x n align fs) q e c = by_member (member_spot fs k) refl e (λ r. along_complete g path r q)
  where
    by_member : (o : Option Spot) → member_spot fs k ≡ o → shape_in o (λ s. shape_along g path s) ≡ Some q →
        ((r : Shape) → shape_along g path r ≡ Some q → is_complete r ≡ true → is_complete q ≡ true) → is_complete q ≡ true
    by_member None same h rest = absurd cc
    by_member (Some r) same h rest = rest r.shape h (member_complete fs k r c same)
along_complete g (IntoElement i path) (Row r n) q e c = by_index (is_number (sort_of g i)) e (along_complete g path r q)
  where
    by_index : (b : Bool) → cond b (shape_along g path r) None ≡ Some q → (shape_along g path r ≡ Some q → is_complete r ≡ true → is_complete q ≡ true) → is_complete q ≡ true
    by_index true h rest = rest h (and_parts (nat_lt 0 n) (is_complete r) c).1
    by_index false h rest = absurd cc
along_complete g _ _ q e c = absurd cc

-- the same of an answer that is there
pub some_complete : (g : Scope) (path : Path) (s : Shape) (o : Option Shape) → o ≡ shape_along g path s → is_complete s ≡ true → IfSome o (λ q. is_complete q ≡ true)
some_complete g path s None e c = tt
some_complete g path s (Some q) e c = along_complete g path s q (sym e) c

pub object_whole : (l : Layout) (t : CType) → is_object l t ≡ true → is_complete (shape_of l t) ≡ true
object_whole l t h = (and_parts (is_complete (shape_of l t)) _ h).0

pub width_is : (n : ℕ) → IsWidth n → is_width n ≡ true
width_is n (inl h) = subst (λ m. is_width m ≡ true) (sym h) refl
width_is n (inr (inl h)) = subst (λ m. is_width m ≡ true) (sym h) refl
width_is n (inr (inr (inl h))) = subst (λ m. is_width m ≡ true) (sym h) refl
width_is n (inr (inr (inr h))) = subst (λ m. is_width m ≡ true) (sym h) refl

pub literal_is : (n bits : ℕ) → IsWidth n → bits < 2 ^ n → (is_width n && nat_lt bits (2 ^ n)) ≡ true
literal_is n bits w h = and_from (is_width n) (nat_lt bits (2 ^ n)) (width_is n w) (lt-ltb bits (2 ^ n) h)

pub where_true : (b : Bool) (o : Option Sort) → b ≡ true → where_holds b o ≡ o
where_true b o h = subst (λ c. where_holds c o ≡ o) (sym h) refl

pub literal_sorted : (n bits width b : ℕ) → width ≡ n → IsWidth width → b ≡ bits → b < 2 ^ n → word_sort width ≡ where_holds (is_width n && nat_lt bits (2 ^ n)) (word_sort n)
literal_sorted n bits width b e w same h =
    ap (λ m. word_sort m) e
    ∙ sym (where_true (is_width n && nat_lt bits (2 ^ n)) (word_sort n) (literal_is n bits (subst IsWidth e w) (subst (λ x. x < 2 ^ n) same h)))
