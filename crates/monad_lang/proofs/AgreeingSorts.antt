-- Expressions, and places of programs, have the same sorts in scopes that agree on their names.
use Rattle.std.proofs.Common.{◌≡◌, Bool, not, cond, ◌&&◌, ◌||◌, List, [], ◌∷◌, Option, Some, None, refl, ap, ap₂, ◌∙◌}
use Rattle.c_values.specs.Name.{Name}
use Rattle.c_values.specs.Types.{CType, address_width}
use Rattle.c_values.specs.Layout.{Layout, Shape, Record, Row, is_object, shape_of}
use Rattle.c_values.specs.Path.{Spot, member_spot}
use Rattle.c_values.proofs.Laid.{same_name-refl}
use Rattle.expression_lang.specs.Expression.{Exp, Var, WordBinary, WordShift, WordUnary, WordCompare, Cast, ToNat, ToInt, ToWord, Arith, Negate, Lt, Le, Between, Eq, And, Or, Imp, Not, If, Padd, At, Load, Read, Tagged, PtrOk, Global, Sel, Upd, Path, IntoField, IntoElement}
use Rattle.expression_lang.specs.Mentions.{is_name, names}
use Rattle.expression_lang.specs.Form.{has, path_has, is_part_of_value}
use Rattle.expression_lang.specs.Sort.{Scalar, Sort, Scope, word_width, is_word_of, is_number, is_truth, truth_sort, number_sort, word_sort, where_holds, of_words, of_word, are_same, of_shape, shape_in, of_type, parts_shape, scalar_sort, sort_at, sort_of, shape_along, cast_fits, is_width, is_unary, is_one_step}
use Rattle.expression_lang.specs.Sorted.{program_sort, scalar_in, with_scalar, scalars_of, sort_in, part_place, typed_place, global_place}
use Rattle.monad_lang.specs.Program.{Place, Stored, Written, Global as GlobalPlace}
use Rattle.monad_lang.specs.Names.{is_in_some, is_in_place}
use Rattle.monad_lang.specs.Sorted.{place_sort}
use Rattle.monad_lang.specs.Agree.{AgreeOn}
use Rattle.monad_lang.proofs.Agreeing.{agree_left, agree_right}

abbrev pub path_names : Name → Path → Bool
path_names y path = path_has (is_name y) path

abbrev pub in_scope : Layout → (Name → Option CType) → (Name → Option Scalar) → Scope
in_scope l gs ns = record { layout = l; names = ns; globals = gs }

module _ (l : Layout) (gs : Name → Option CType) (ns ns' : Name → Option Scalar) where
  abbrev g : Scope
  g = in_scope l gs ns

  abbrev g' : Scope
  g' = in_scope l gs ns'

  abbrev Agree : (Name → Bool) → Type 0
  Agree test = AgreeOn test ns ns'

  abbrev OnExp : Exp → Type 0
  OnExp e = Agree (λ y. names y e)

  abbrev OnPath : Path → Type 0
  OnPath path = Agree (λ y. path_names y path)

  two : {C : Type 0} (f : Option Sort → Option Sort → C) (a b : Exp) → Agree (λ y. names y a || names y b) → (OnExp a → sort_of g a ≡ sort_of g' a) → (OnExp b → sort_of g b ≡ sort_of g' b) →
      f (sort_of g a) (sort_of g b) ≡ f (sort_of g' a) (sort_of g' b)
  two f a b h j k = ap₂ f (j (agree_left (λ y. names y a) (λ y. names y b) ns ns' h)) (k (agree_right (λ y. names y a) (λ y. names y b) ns ns' h))

  left_path : (a : Exp) (path : Path) → Agree (λ y. names y a || path_names y path) → OnExp a
  left_path a path h = agree_left (λ y. names y a) (λ y. path_names y path) ns ns' h

  right_path : (a : Exp) (path : Path) → Agree (λ y. names y a || path_names y path) → OnPath path
  right_path a path h = agree_right (λ y. names y a) (λ y. path_names y path) ns ns' h

  pub same_along : (o : Option Shape) (p q : Shape → Option Shape) (f : Shape → Option Sort) → ((s : Shape) → p s ≡ q s) → of_shape o (λ s. of_shape (p s) f) ≡ of_shape o (λ s. of_shape (q s) f)
  same_along None p q f h = refl
  same_along (Some s) p q f h = ap (λ r. of_shape r f) (h s)

  pub same_global : (o : Option CType) (p q : Shape → Option Shape) → ((s : Shape) → p s ≡ q s) →
      of_type o (λ t. where_holds (is_object l t) (of_shape (p (shape_of l t)) sort_at)) ≡ of_type o (λ t. where_holds (is_object l t) (of_shape (q (shape_of l t)) sort_at))
  same_global None p q h = refl
  same_global (Some t) p q h = ap (λ s. where_holds (is_object l t) (of_shape s sort_at)) (h (shape_of l t))

  pub same_member : (o : Option Spot) (p q : Shape → Option Shape) → ((s : Shape) → p s ≡ q s) → shape_in o p ≡ shape_in o q
  same_member None p q h = refl
  same_member (Some r) p q h = h r.shape

  mutual
    pub sort_agrees : (e : Exp) → OnExp e → sort_of g e ≡ sort_of g' e
    sort_agrees (Var x) h = ap scalar_sort (h x (same_name-refl x))
    sort_agrees (WordBinary op a b) h = two (λ o p. of_words (word_width o) (word_width p) word_sort) a b h (sort_agrees a) (sort_agrees b)
    sort_agrees (WordShift op a n) h = two (λ o p. where_holds (is_number p) (of_word (word_width o) word_sort)) a n h (sort_agrees a) (sort_agrees n)
    sort_agrees (WordUnary op a) h = ap (λ o. of_word (word_width o) word_sort) (sort_agrees a h)
    sort_agrees (WordCompare op a b) h = two (λ o p. of_words (word_width o) (word_width p) (λ n. truth_sort)) a b h (sort_agrees a) (sort_agrees b)
    sort_agrees (Cast op width a) h = ap (λ o. of_word (word_width o) (λ from. where_holds (is_width width && cast_fits op from width) (word_sort width))) (sort_agrees a h)
    sort_agrees (ToNat a) h = ap (λ o. of_word (word_width o) (λ n. number_sort)) (sort_agrees a h)
    sort_agrees (ToInt a) h = ap (λ o. of_word (word_width o) (λ n. number_sort)) (sort_agrees a h)
    sort_agrees (ToWord width a) h = ap (λ o. where_holds (is_width width && is_number o) (word_sort width)) (sort_agrees a h)
    sort_agrees (Arith op a b) h = two (λ o p. where_holds (not (is_unary op) && is_number o && is_number p) number_sort) a b h (sort_agrees a) (sort_agrees b)
    sort_agrees (Negate a) h = ap (λ o. where_holds (is_number o) number_sort) (sort_agrees a h)
    sort_agrees (Lt a b) h = two (λ o p. where_holds (is_number o && is_number p) truth_sort) a b h (sort_agrees a) (sort_agrees b)
    sort_agrees (Le a b) h = two (λ o p. where_holds (is_number o && is_number p) truth_sort) a b h (sort_agrees a) (sort_agrees b)
    sort_agrees (Between low a high) h = ap (λ o. where_holds (is_number o) truth_sort) (sort_agrees a h)
    sort_agrees (Eq a b) h = two (λ o p. where_holds (are_same o p) truth_sort) a b h (sort_agrees a) (sort_agrees b)
    sort_agrees (And a b) h = two (λ o p. where_holds (is_truth o && is_truth p) truth_sort) a b h (sort_agrees a) (sort_agrees b)
    sort_agrees (Or a b) h = two (λ o p. where_holds (is_truth o && is_truth p) truth_sort) a b h (sort_agrees a) (sort_agrees b)
    sort_agrees (Imp a b) h = two (λ o p. where_holds (is_truth o && is_truth p) truth_sort) a b h (sort_agrees a) (sort_agrees b)
    sort_agrees (Not a) h = ap (λ o. where_holds (is_truth o) truth_sort) (sort_agrees a h)
    sort_agrees (If c a b) h =
        let p = agree_left (λ y. names y c || names y a) (λ y. names y b) ns ns' h in
        ap (λ o. where_holds (is_truth o && are_same (sort_of g a) (sort_of g b)) (sort_of g a)) (sort_agrees c (agree_left (λ y. names y c) (λ y. names y a) ns ns' p))
        ∙ ap₂ (λ o q. where_holds (is_truth (sort_of g' c) && are_same o q) o) (sort_agrees a (agree_right (λ y. names y c) (λ y. names y a) ns ns' p))
        (sort_agrees b (agree_right (λ y. names y c || names y a) (λ y. names y b) ns ns' h))
    sort_agrees (Padd t p n) h =
        two (λ o q. where_holds (is_object l t && is_word_of (address_width l.target) o && is_number q) (word_sort (address_width l.target))) p n h (sort_agrees p) (sort_agrees n)
    sort_agrees (At t p path) h =
        ap₂ (λ o s. where_holds (is_object l t && is_word_of (address_width l.target) o) (of_shape s (λ s. word_sort (address_width l.target)))) (sort_agrees p (left_path p path h))
        (shape_agrees path (shape_of l t) (right_path p path h))
    sort_agrees (Load t p path) h =
        ap₂ (λ o s. where_holds (is_object l t && is_word_of (address_width l.target) o) (of_shape s sort_at)) (sort_agrees p (left_path p path h)) (shape_agrees path (shape_of l t) (right_path p path h))
    sort_agrees (Read t p path) h =
        ap₂ (λ o s. where_holds (is_object l t && is_word_of (address_width l.target) o) (of_shape s sort_at)) (sort_agrees p (left_path p path h)) (shape_agrees path (shape_of l t) (right_path p path h))
    sort_agrees (Tagged t p) h = ap (λ o. where_holds (is_object l t && is_word_of (address_width l.target) o) truth_sort) (sort_agrees p h)
    sort_agrees (PtrOk t p) h = ap (λ o. where_holds (is_object l t && is_word_of (address_width l.target) o) truth_sort) (sort_agrees p h)
    sort_agrees (Global x path) h = same_global (gs x) (λ s. shape_along g path s) (λ s. shape_along g' path s) (λ s. shape_agrees path s h)
    sort_agrees (Sel e path) h =
        ap (λ o. where_holds (is_one_step path) (of_shape (parts_shape l o) (λ s. of_shape (shape_along g path s) sort_at))) (sort_agrees e (left_path e path h))
        ∙ ap (λ o. where_holds (is_one_step path) o) (same_along (parts_shape l (sort_of g' e)) (λ s. shape_along g path s) (λ s. shape_along g' path s) sort_at (λ s. shape_agrees path s (right_path e path h)))
    sort_agrees (Upd e path v) h =
        let p = agree_left (λ y. names y e || path_names y path) (λ y. names y v) ns ns' h in
        ap₂ (λ o q. of_shape (parts_shape l o) (λ s. of_shape (shape_along g path s) (λ r. where_holds (are_same (sort_at r) q) o))) (sort_agrees e (left_path e path p))
        (sort_agrees v (agree_right (λ y. names y e || path_names y path) (λ y. names y v) ns ns' h))
        ∙ same_along (parts_shape l (sort_of g' e)) (λ s. shape_along g path s) (λ s. shape_along g' path s) (λ r. where_holds (are_same (sort_at r) (sort_of g' v)) (sort_of g' e)) (λ s. shape_agrees path s (right_path e path p))
    sort_agrees _ _ = refl

    pub shape_agrees : (path : Path) (s : Shape) → OnPath path → shape_along g path s ≡ shape_along g' path s
    shape_agrees (IntoField k path) (Record x n align fs) h = same_member (member_spot fs k) (λ s. shape_along g path s) (λ s. shape_along g' path s) (λ s. shape_agrees path s h)
    shape_agrees (IntoElement e path) (Row s n) h = ap₂ (λ o q. cond (is_number o) q None) (sort_agrees e (left_path e path h)) (shape_agrees path s (right_path e path h))
    shape_agrees _ _ _ = refl

  pub program_agrees : (e : Exp) → OnExp e → program_sort g e ≡ program_sort g' e
  program_agrees e h = ap (λ o. cond (has is_part_of_value e) None o) (sort_agrees e h)

  pub scalars_agree : (es : List Exp) → Agree (λ y. is_in_some y es) → scalars_of g es ≡ scalars_of g' es
  scalars_agree [] h = refl
  scalars_agree (e ∷ es) h =
      ap₂ (λ o r. with_scalar (scalar_in o) r) (program_agrees e (agree_left (λ y. names y e) (λ y. is_in_some y es) ns ns' h)) (scalars_agree es (agree_right (λ y. names y e) (λ y. is_in_some y es) ns ns' h))

  part_agrees : (t : CType) (path : Path) → OnPath path → part_place g t path ≡ part_place g' t path
  part_agrees t path h = ap (λ s. cond (path_has is_part_of_value path) None (sort_in s)) (shape_agrees path (shape_of l t) h)

  typed_agrees : (t : CType) (p : Exp) (path : Path) → Agree (λ y. names y p || path_names y path) → typed_place g t p path ≡ typed_place g' t p path
  typed_agrees t p path h = ap₂ (λ o q. cond (is_object l t && is_word_of (address_width l.target) o) q None) (program_agrees p (left_path p path h)) (part_agrees t path (right_path p path h))

  global_place_agrees : (o : Option CType) (path : Path) → OnPath path → global_place g o path ≡ global_place g' o path
  global_place_agrees None path h = refl
  global_place_agrees (Some t) path h = ap (λ q. cond (is_object l t) q None) (part_agrees t path h)

  pub place_agrees : (place : Place) → Agree (λ y. is_in_place y place) → place_sort g place ≡ place_sort g' place
  place_agrees (Stored t p path) h = typed_agrees t p path h
  place_agrees (Written t p path) h = typed_agrees t p path h
  place_agrees (GlobalPlace x path) h = global_place_agrees (gs x) path h
