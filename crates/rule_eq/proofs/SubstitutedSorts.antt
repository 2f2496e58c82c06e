-- An expression with another one in place of a name has the sort that it has where the name has the other's sort.
use Rattle.std.proofs.Common.{◌≡◌, Bool, true, false, not, cond, ◌&&◌, ◌||◌, List, [], ◌∷◌, Option, Some, None, unwrap_or, refl, ap, ap₂, ◌∙◌}
use Rattle.c_values.specs.Name.{Name, same_name}
use Rattle.c_values.specs.Types.{CType, address_width}
use Rattle.c_values.specs.Layout.{Layout, Shape, Record, Row, is_object, shape_of}
use Rattle.c_values.specs.Path.{member_spot}
use Rattle.c_values.proofs.Laid.{name_is}
use Rattle.expression_lang.specs.Expression.{Exp, Var, WordBinary, WordShift, WordUnary, WordCompare, Cast, ToNat, ToInt, ToWord, Arith, Negate, Lt, Le, Between, Eq, And, Or, Imp, Not, If, Padd, At, Load, Read, Tagged, PtrOk, Global, Sel, Upd, Path, Here, IntoField, IntoElement}
use Rattle.expression_lang.specs.Mentions.{is_name, names}
use Rattle.expression_lang.specs.Form.{has, path_has, is_part_of_value}
use Rattle.ac_expr.specs.Substituted.{substituted, path_substituted}
use Rattle.expression_lang.specs.Sort.{Scalar, Sort, Scope, word_width, is_word_of, is_number, is_truth, truth_sort, number_sort, word_sort, where_holds, of_words, of_word, are_same, of_shape, parts_shape, scalar_sort, sort_at, sort_of, shape_along, cast_fits, is_width, is_unary, is_one_step}
use Rattle.expression_lang.specs.Sorted.{program_sort, scalar_in, with_scalar, scalars_of, sort_in, part_place, typed_place, global_place}
use Rattle.monad_lang.specs.Program.{Place, Stored, Written, Global as GlobalPlace, Start}
use Rattle.monad_lang.specs.Names.{is_in_some, is_in_start, is_in_place}
use Rattle.monad_lang.specs.Sorted.{place_sort, start_scalars}
use Rattle.program_facts.specs.Substituted.{each_substituted, starts_substituted, place_substituted}
use Rattle.monad_lang.proofs.AgreeingSorts.{in_scope, same_along, same_global, same_member}

one_step : (x : Name) (e : Exp) (path : Path) → is_one_step (path_substituted x e path) ≡ is_one_step path
one_step x e (IntoField k Here) = refl
one_step x e (IntoElement a Here) = refl
one_step _ _ _ = refl

-- where the name is there, what is put in has its sort, and no part of a value is in it
module _ (l : Layout) (gs : Name → Option CType) (ns ns' : Name → Option Scalar) (x : Name) (e : Exp) (others : (y : Name) → same_name x y ≡ false → ns y ≡ ns' y) where
  abbrev g : Scope
  g = in_scope l gs ns

  abbrev g' : Scope
  g' = in_scope l gs ns'

  pub record Fits : Type 0 where
    pub sort : sort_of g e ≡ scalar_sort (ns' x)
    pub whole : has is_part_of_value e ≡ false

  abbrev pub Held : Bool → Type 0
  Held b = b ≡ true → Fits

  left : (a b : Bool) → Held (a || b) → Held a
  left true b h k = h refl
  left false b h k = absurd cc

  right : (a b : Bool) → Held (a || b) → Held b
  right true b h k = h refl
  right false b h k = h k

  abbrev put : Exp → Exp
  put a = substituted x e a

  abbrev path_put : Path → Path
  path_put path = path_substituted x e path

  abbrev in_path : Path → Bool
  in_path path = path_has (is_name x) path

  name_sort : (y : Name) (b : Bool) → same_name x y ≡ b → Held b → sort_of g (unwrap_or (cond b (Some e) None) (Var y)) ≡ sort_of g' (Var y)
  name_sort y true i h = (h refl).sort ∙ ap (λ z. scalar_sort (ns' z)) (name_is x y i)
  name_sort y false i h = ap scalar_sort (others y i)

  two : {C : Type 0} (f : Option Sort → Option Sort → C) (a b : Exp) → Held (names x a || names x b) → (Held (names x a) → sort_of g (put a) ≡ sort_of g' a) → (Held (names x b) → sort_of g (put b) ≡ sort_of g' b) →
      f (sort_of g (put a)) (sort_of g (put b)) ≡ f (sort_of g' a) (sort_of g' b)
  two f a b h j k = ap₂ f (j (left (names x a) (names x b) h)) (k (right (names x a) (names x b) h))

  root : (a : Exp) (path : Path) → Held (names x a || in_path path) → Held (names x a)
  root a path h = left (names x a) (in_path path) h

  along : (a : Exp) (path : Path) → Held (names x a || in_path path) → Held (in_path path)
  along a path h = right (names x a) (in_path path) h

  mutual
    pub sort_put : (a : Exp) → Held (names x a) → sort_of g (put a) ≡ sort_of g' a
    sort_put (Var y) h = name_sort y (same_name x y) refl h
    sort_put (WordBinary op a b) h = two (λ o p. of_words (word_width o) (word_width p) word_sort) a b h (sort_put a) (sort_put b)
    sort_put (WordShift op a n) h = two (λ o p. where_holds (is_number p) (of_word (word_width o) word_sort)) a n h (sort_put a) (sort_put n)
    sort_put (WordUnary op a) h = ap (λ o. of_word (word_width o) word_sort) (sort_put a h)
    sort_put (WordCompare op a b) h = two (λ o p. of_words (word_width o) (word_width p) (λ n. truth_sort)) a b h (sort_put a) (sort_put b)
    sort_put (Cast op width a) h = ap (λ o. of_word (word_width o) (λ from. where_holds (is_width width && cast_fits op from width) (word_sort width))) (sort_put a h)
    sort_put (ToNat a) h = ap (λ o. of_word (word_width o) (λ n. number_sort)) (sort_put a h)
    sort_put (ToInt a) h = ap (λ o. of_word (word_width o) (λ n. number_sort)) (sort_put a h)
    sort_put (ToWord width a) h = ap (λ o. where_holds (is_width width && is_number o) (word_sort width)) (sort_put a h)
    sort_put (Arith op a b) h = two (λ o p. where_holds (not (is_unary op) && is_number o && is_number p) number_sort) a b h (sort_put a) (sort_put b)
    sort_put (Negate a) h = ap (λ o. where_holds (is_number o) number_sort) (sort_put a h)
    sort_put (Lt a b) h = two (λ o p. where_holds (is_number o && is_number p) truth_sort) a b h (sort_put a) (sort_put b)
    sort_put (Le a b) h = two (λ o p. where_holds (is_number o && is_number p) truth_sort) a b h (sort_put a) (sort_put b)
    sort_put (Between low a high) h = ap (λ o. where_holds (is_number o) truth_sort) (sort_put a h)
    sort_put (Eq a b) h = two (λ o p. where_holds (are_same o p) truth_sort) a b h (sort_put a) (sort_put b)
    sort_put (And a b) h = two (λ o p. where_holds (is_truth o && is_truth p) truth_sort) a b h (sort_put a) (sort_put b)
    sort_put (Or a b) h = two (λ o p. where_holds (is_truth o && is_truth p) truth_sort) a b h (sort_put a) (sort_put b)
    sort_put (Imp a b) h = two (λ o p. where_holds (is_truth o && is_truth p) truth_sort) a b h (sort_put a) (sort_put b)
    sort_put (Not a) h = ap (λ o. where_holds (is_truth o) truth_sort) (sort_put a h)
    sort_put (If c a b) h =
        let p = left (names x c || names x a) (names x b) h in
        ap (λ o. where_holds (is_truth o && are_same (sort_of g (put a)) (sort_of g (put b))) (sort_of g (put a))) (sort_put c (left (names x c) (names x a) p))
        ∙ ap₂ (λ o q. where_holds (is_truth (sort_of g' c) && are_same o q) o) (sort_put a (right (names x c) (names x a) p)) (sort_put b (right (names x c || names x a) (names x b) h))
    sort_put (Padd t p n) h =
        two (λ o q. where_holds (is_object l t && is_word_of (address_width l.target) o && is_number q) (word_sort (address_width l.target))) p n h (sort_put p) (sort_put n)
    sort_put (At t p path) h =
        ap₂ (λ o s. where_holds (is_object l t && is_word_of (address_width l.target) o) (of_shape s (λ s. word_sort (address_width l.target)))) (sort_put p (root p path h)) (shape_put path (shape_of l t) (along p path h))
    sort_put (Load t p path) h =
        ap₂ (λ o s. where_holds (is_object l t && is_word_of (address_width l.target) o) (of_shape s sort_at)) (sort_put p (root p path h)) (shape_put path (shape_of l t) (along p path h))
    sort_put (Read t p path) h =
        ap₂ (λ o s. where_holds (is_object l t && is_word_of (address_width l.target) o) (of_shape s sort_at)) (sort_put p (root p path h)) (shape_put path (shape_of l t) (along p path h))
    sort_put (Tagged t p) h = ap (λ o. where_holds (is_object l t && is_word_of (address_width l.target) o) truth_sort) (sort_put p h)
    sort_put (PtrOk t p) h = ap (λ o. where_holds (is_object l t && is_word_of (address_width l.target) o) truth_sort) (sort_put p h)
    sort_put (Global y path) h = same_global l gs ns ns' (gs y) (λ s. shape_along g (path_put path) s) (λ s. shape_along g' path s) (λ s. shape_put path s h)
    sort_put (Sel a path) h =
        ap₂ (λ b o. where_holds b (of_shape (parts_shape l o) (λ s. of_shape (shape_along g (path_put path) s) sort_at))) (one_step x e path) (sort_put a (root a path h))
        ∙ ap (λ o. where_holds (is_one_step path) o) (same_along l gs ns ns' (parts_shape l (sort_of g' a)) (λ s. shape_along g (path_put path) s) (λ s. shape_along g' path s) sort_at (λ s. shape_put path s (along a path h)))
    sort_put (Upd a path v) h =
        let p = left (names x a || in_path path) (names x v) h in
        ap₂ (λ o q. of_shape (parts_shape l o) (λ s. of_shape (shape_along g (path_put path) s) (λ r. where_holds (are_same (sort_at r) q) o))) (sort_put a (root a path p)) (sort_put v (right (names x a || in_path path) (names x v) h))
        ∙ same_along l gs ns ns' (parts_shape l (sort_of g' a)) (λ s. shape_along g (path_put path) s) (λ s. shape_along g' path s) (λ r. where_holds (are_same (sort_at r) (sort_of g' v)) (sort_of g' a)) (λ s. shape_put path s (along a path p))
    sort_put _ _ = refl

    pub shape_put : (path : Path) (s : Shape) → Held (in_path path) → shape_along g (path_put path) s ≡ shape_along g' path s
    shape_put (IntoField k path) (Record y n align fs) h = same_member l gs ns ns' (member_spot fs k) (λ s. shape_along g (path_put path) s) (λ s. shape_along g' path s) (λ s. shape_put path s h)
    shape_put (IntoElement a path) (Row s n) h = ap₂ (λ o q. cond (is_number o) q None) (sort_put a (root a path h)) (shape_put path s (along a path h))
    shape_put _ _ _ = refl

  abbrev whole : Exp → Bool
  whole a = has is_part_of_value a

  name_whole : (y : Name) (b : Bool) → same_name x y ≡ b → Held b → whole (unwrap_or (cond b (Some e) None) (Var y)) ≡ false
  name_whole y true i h = (h refl).whole
  name_whole y false i h = refl

  both_whole : (a b : Exp) → Held (names x a || names x b) → (Held (names x a) → whole (put a) ≡ whole a) → (Held (names x b) → whole (put b) ≡ whole b) → (whole (put a) || whole (put b)) ≡ (whole a || whole b)
  both_whole a b h j k = ap₂ (λ u v. u || v) (j (left (names x a) (names x b) h)) (k (right (names x a) (names x b) h))

  mutual
    pub whole_put : (a : Exp) → Held (names x a) → whole (put a) ≡ whole a
    whole_put (Var y) h = name_whole y (same_name x y) refl h
    whole_put (WordBinary op a b) h = both_whole a b h (whole_put a) (whole_put b)
    whole_put (WordShift op a b) h = both_whole a b h (whole_put a) (whole_put b)
    whole_put (WordCompare op a b) h = both_whole a b h (whole_put a) (whole_put b)
    whole_put (Arith op a b) h = both_whole a b h (whole_put a) (whole_put b)
    whole_put (Lt a b) h = both_whole a b h (whole_put a) (whole_put b)
    whole_put (Le a b) h = both_whole a b h (whole_put a) (whole_put b)
    whole_put (Eq a b) h = both_whole a b h (whole_put a) (whole_put b)
    whole_put (And a b) h = both_whole a b h (whole_put a) (whole_put b)
    whole_put (Or a b) h = both_whole a b h (whole_put a) (whole_put b)
    whole_put (Imp a b) h = both_whole a b h (whole_put a) (whole_put b)
    whole_put (Padd t a b) h = both_whole a b h (whole_put a) (whole_put b)
    whole_put (WordUnary op a) h = whole_put a h
    whole_put (Cast op width a) h = whole_put a h
    whole_put (ToNat a) h = whole_put a h
    whole_put (ToInt a) h = whole_put a h
    whole_put (ToWord width a) h = whole_put a h
    whole_put (Negate a) h = whole_put a h
    whole_put (Between low a high) h = whole_put a h
    whole_put (Not a) h = whole_put a h
    whole_put (Tagged t a) h = whole_put a h
    whole_put (PtrOk t a) h = whole_put a h
    whole_put (If c a d) h =
        let p = left (names x c || names x a) (names x d) h in
        ap₂ (λ u v. u || v) (both_whole c a p (whole_put c) (whole_put a)) (whole_put d (right (names x c || names x a) (names x d) h))
    whole_put (At t a path) h = ap₂ (λ u v. u || v) (whole_put a (root a path h)) (path_whole_put path (along a path h))
    whole_put (Load t a path) h = ap₂ (λ u v. u || v) (whole_put a (root a path h)) (path_whole_put path (along a path h))
    whole_put (Read t a path) h = ap₂ (λ u v. u || v) (whole_put a (root a path h)) (path_whole_put path (along a path h))
    whole_put (Global y path) h = path_whole_put path h
    whole_put _ _ = refl

    pub path_whole_put : (path : Path) → Held (in_path path) → path_has is_part_of_value (path_put path) ≡ path_has is_part_of_value path
    path_whole_put Here h = refl
    path_whole_put (IntoField k path) h = path_whole_put path h
    path_whole_put (IntoElement a path) h = ap₂ (λ u v. u || v) (whole_put a (root a path h)) (path_whole_put path (along a path h))

  -- in programs

  pub program_put : (a : Exp) → Held (names x a) → program_sort g (put a) ≡ program_sort g' a
  program_put a h = ap₂ (λ b o. cond b None o) (whole_put a h) (sort_put a h)

  pub each_put : (es : List Exp) → Held (is_in_some x es) → scalars_of g (each_substituted x e es) ≡ scalars_of g' es
  each_put [] h = refl
  each_put (a ∷ as') h = ap₂ (λ o r. with_scalar (scalar_in o) r) (program_put a (left (names x a) (is_in_some x as') h)) (each_put as' (right (names x a) (is_in_some x as') h))

  pub starts_put : (xs : List Start) → Held (is_in_start x xs) → start_scalars g (starts_substituted x e xs) ≡ start_scalars g' xs
  starts_put [] h = refl
  starts_put (a ∷ as') h = ap₂ (λ o r. with_scalar (scalar_in o) r) (program_put a.exp (left (names x a.exp) (is_in_start x as') h)) (starts_put as' (right (names x a.exp) (is_in_start x as') h))

  part_put : (t : CType) (path : Path) → Held (in_path path) → part_place g t (path_put path) ≡ part_place g' t path
  part_put t path h = ap₂ (λ b s. cond b None (sort_in s)) (path_whole_put path h) (shape_put path (shape_of l t) h)

  typed_put : (t : CType) (a : Exp) (path : Path) → Held (names x a || in_path path) → typed_place g t (put a) (path_put path) ≡ typed_place g' t a path
  typed_put t a path h = ap₂ (λ o q. cond (is_object l t && is_word_of (address_width l.target) o) q None) (program_put a (root a path h)) (part_put t path (along a path h))

  global_put : (o : Option CType) (path : Path) → Held (in_path path) → global_place g o (path_put path) ≡ global_place g' o path
  global_put None path h = refl
  global_put (Some t) path h = ap (λ q. cond (is_object l t) q None) (part_put t path h)

  pub place_put : (q : Place) → Held (is_in_place x q) → place_sort g (place_substituted x e q) ≡ place_sort g' q
  place_put (Stored t a path) h = typed_put t a path h
  place_put (Written t a path) h = typed_put t a path h
  place_put (GlobalPlace y path) h = global_put (gs y) path h
