-- Where an expression's value has parts, they are those of a complete type.
use Rattle.std.proofs.Common.{◌≡◌, ℕ, ◌^◌, ◌==◌, nat_lt, Bool, true, false, not, cond, ◌&&◌, Option, Some, None, refl, sym, ap, subst}
use Rattle.std.proofs.lemmas.Bool.{and_parts}
use Rattle.c_values.specs.Types.{CType, address_width}
use Rattle.c_values.specs.Layout.{Layout, IsLayout, Shape, Scalar, Record, Row, shape_of, is_complete, is_object}
use Rattle.c_values.specs.Path.{Spot, member_spot}
use Rattle.c_values.proofs.Laid.{structs_of}
use Rattle.c_values.proofs.Parts.{laid_shape}
use Rattle.expression_lang.specs.Expression as X
use Rattle.expression_lang.specs.Sort as S
use Rattle.expression_lang.specs.Sort.{Scope, Sort, Of, PartsSort, WordSort, NumberSort, TruthSort, is_width, word_width, is_truth, is_word_of, is_unary, is_one_step, are_same, cast_fits, number_sort, truth_sort, sort_of, sort_at, shape_along, shape_in, where_holds, of_words, of_word, of_shape, of_type, parts_shape, scalar_sort, is_number, word_sort}
use Rattle.expression_lang.specs.CodeAlong.{parts_type}
use Rattle.expression_lang.proofs.Good.{Good, good_object, good_member, good_whole}

-- the parts are of a good shape
abbrev IsWhole : Layout → Option Sort → Type 0
IsWhole l None = Unit {0}
IsWhole l (Some (Of c)) = Unit {0}
IsWhole l (Some (PartsSort t)) = Good l (shape_of l t)

module _ (g : Scope) (h : IsLayout g.layout) where
  abbrev width : ℕ
  width = address_width g.layout.target

  where_whole : (b : Bool) (o : Option Sort) → (b ≡ true → IsWhole g.layout o) → IsWhole g.layout (where_holds b o)
  where_whole true o w = w refl
  where_whole false o w = tt

  of_whole : (b : Bool) (c : S.Scalar) → IsWhole g.layout (where_holds b (Some (Of c)))
  of_whole true c = tt
  of_whole false c = tt

  words_whole : (a b : Option ℕ) (f : ℕ → Option Sort) → ((n : ℕ) → IsWhole g.layout (f n)) → IsWhole g.layout (of_words a b f)
  words_whole (Some m) (Some n) f w = where_whole (m == n) (f m) (λ e. w m)
  words_whole _ _ _ _ = tt

  word_whole : (a : Option ℕ) (f : ℕ → Option Sort) → ((n : ℕ) → IsWhole g.layout (f n)) → IsWhole g.layout (of_word a f)
  word_whole (Some n) f w = w n
  word_whole None f w = tt

  shape_whole : (o : Option Shape) (f : Shape → Option Sort) → ((s : Shape) → o ≡ Some s → IsWhole g.layout (f s)) → IsWhole g.layout (of_shape o f)
  shape_whole (Some s) f w = w s refl
  shape_whole None f w = tt

  type_whole : (o : Option CType) (f : CType → Option Sort) → ((t : CType) → IsWhole g.layout (f t)) → IsWhole g.layout (of_type o f)
  type_whole (Some t) f w = w t
  type_whole None f w = tt

  scalar_whole : (o : Option S.Scalar) → IsWhole g.layout (scalar_sort o)
  scalar_whole (Some s) = tt
  scalar_whole None = tt

  -- what lies at a good shape
  place_whole : (s : Shape) → Good g.layout s → IsWhole g.layout (sort_at s)
  place_whole (Record x n align fs) k = subst (λ r. Good g.layout r) (sym (laid_shape g.layout.target (structs_of g.layout) (Record x n align fs) k.laid)) k
  place_whole (Row r n) k = subst (λ r'. Good g.layout r') (sym (laid_shape g.layout.target (structs_of g.layout) (Row r n) k.laid)) k
  place_whole _ _ = tt

  along_good : (path : X.Path) (s q : Shape) → shape_along g path s ≡ Some q → Good g.layout s → Good g.layout q
  along_good X.Here s q e k = let same : s ≡ q = cc in subst (λ r. Good g.layout r) same k
  along_good (X.IntoField i path) (Record x n align fs) q e k = by_member (member_spot fs i) refl e (λ r. along_good path r q)
    where
      by_member : (o : Option Spot) → member_spot fs i ≡ o → shape_in o (λ r. shape_along g path r) ≡ Some q →
          ((r : Shape) → shape_along g path r ≡ Some q → Good g.layout r → Good g.layout q) → Good g.layout q
      by_member None same e' rest = absurd cc
      by_member (Some r) same e' rest = rest r.shape e' (good_member g.layout fs align n 0 i r k.formed.members k.laid.members same)
  along_good (X.IntoElement i path) (Row r n) q e k = by_index (is_number (sort_of g i)) e (along_good path r q)
    where
      by_index : (b : Bool) → cond b (shape_along g path r) None ≡ Some q → (shape_along g path r ≡ Some q → Good g.layout r → Good g.layout q) → Good g.layout q
      by_index true e' rest = rest e' (record { formed = k.formed.element; laid = k.laid })
      by_index false e' rest = absurd cc
  along_good _ _ q e k = absurd cc

  -- the sort of a part
  abbrev part_at : X.Path → Shape → Option Sort
  part_at path s = of_shape (shape_along g path s) sort_at

  part_whole : (path : X.Path) (s : Shape) → Good g.layout s → IsWhole g.layout (of_shape (shape_along g path s) sort_at)
  part_whole path s k = shape_whole (shape_along g path s) sort_at (λ q e. place_whole q (along_good path s q e k))

  root_whole : (t : CType) (b : Bool) (path : X.Path) → IsWhole g.layout (where_holds (is_object g.layout t && b) (of_shape (shape_along g path (shape_of g.layout t)) sort_at))
  root_whole t b path =
      where_whole (is_object g.layout t && b) (part_at path (shape_of g.layout t))
      (λ e. part_whole path (shape_of g.layout t) (good_object g.layout t h (and_parts (is_object g.layout t) b e).0))

  parts_whole : (o : Option Sort) (f : Shape → Option Sort) → IsWhole g.layout o → ((s : Shape) → Good g.layout s → IsWhole g.layout (f s)) → IsWhole g.layout (of_shape (parts_shape g.layout o) f)
  parts_whole (Some (PartsSort t)) f k w = w (shape_of g.layout t) k
  parts_whole _ _ _ _ = tt

  pub sort_whole : (e : X.Exp) → IsWhole g.layout (sort_of g e)
  sort_whole (X.Var x) = scalar_whole (g.names x)
  sort_whole (X.WordLit w) = of_whole (is_width w.width && nat_lt w.bits (2 ^ w.width)) (WordSort w.width)
  sort_whole (X.WordBinary op a b) = words_whole (word_width (sort_of g a)) (word_width (sort_of g b)) word_sort (λ n. tt)
  sort_whole (X.WordShift op a n) =
      where_whole (is_number (sort_of g n)) (of_word (word_width (sort_of g a)) word_sort) (λ e. word_whole (word_width (sort_of g a)) word_sort (λ m. tt))
  sort_whole (X.WordUnary op a) = word_whole (word_width (sort_of g a)) word_sort (λ n. tt)
  sort_whole (X.WordCompare op a b) = words_whole (word_width (sort_of g a)) (word_width (sort_of g b)) (λ n. truth_sort) (λ n. tt)
  sort_whole (X.Cast op width a) =
      word_whole (word_width (sort_of g a)) (λ from. where_holds (is_width width && cast_fits op from width) (word_sort width))
      (λ from. of_whole (is_width width && cast_fits op from width) (WordSort width))
  sort_whole (X.ToNat a) = word_whole (word_width (sort_of g a)) (λ n. number_sort) (λ n. tt)
  sort_whole (X.ToInt a) = word_whole (word_width (sort_of g a)) (λ n. number_sort) (λ n. tt)
  sort_whole (X.ToWord width a) = of_whole (is_width width && is_number (sort_of g a)) (WordSort width)
  sort_whole (X.Arith op a b) = of_whole ((not (is_unary op) && is_number (sort_of g a)) && is_number (sort_of g b)) NumberSort
  sort_whole (X.Negate a) = of_whole (is_number (sort_of g a)) NumberSort
  sort_whole (X.Lt a b) = of_whole (is_number (sort_of g a) && is_number (sort_of g b)) TruthSort
  sort_whole (X.Le a b) = of_whole (is_number (sort_of g a) && is_number (sort_of g b)) TruthSort
  sort_whole (X.Between low a high) = of_whole (is_number (sort_of g a)) TruthSort
  sort_whole (X.Eq a b) = of_whole (are_same (sort_of g a) (sort_of g b)) TruthSort
  sort_whole (X.And a b) = of_whole (is_truth (sort_of g a) && is_truth (sort_of g b)) TruthSort
  sort_whole (X.Or a b) = of_whole (is_truth (sort_of g a) && is_truth (sort_of g b)) TruthSort
  sort_whole (X.Imp a b) = of_whole (is_truth (sort_of g a) && is_truth (sort_of g b)) TruthSort
  sort_whole (X.Not a) = of_whole (is_truth (sort_of g a)) TruthSort
  sort_whole (X.If c a b) = where_whole (is_truth (sort_of g c) && are_same (sort_of g a) (sort_of g b)) (sort_of g a) (λ e. sort_whole a)
  sort_whole (X.Padd t p n) = of_whole ((is_object g.layout t && is_word_of width (sort_of g p)) && is_number (sort_of g n)) (WordSort width)
  sort_whole (X.At t p path) =
      where_whole (is_object g.layout t && is_word_of width (sort_of g p)) (of_shape (shape_along g path (shape_of g.layout t)) (λ s. word_sort width))
      (λ e. shape_whole (shape_along g path (shape_of g.layout t)) (λ s. word_sort width) (λ q e'. tt))
  sort_whole (X.Load t p path) = root_whole t (is_word_of width (sort_of g p)) path
  sort_whole (X.Read t p path) = root_whole t (is_word_of width (sort_of g p)) path
  sort_whole (X.Tagged t p) = of_whole (is_object g.layout t && is_word_of width (sort_of g p)) TruthSort
  sort_whole (X.PtrOk t p) = of_whole (is_object g.layout t && is_word_of width (sort_of g p)) TruthSort
  sort_whole (X.Global x path) =
      type_whole (g.globals x) (λ t. where_holds (is_object g.layout t) (part_at path (shape_of g.layout t)))
      (λ t. where_whole (is_object g.layout t) (part_at path (shape_of g.layout t)) (λ e. part_whole path (shape_of g.layout t) (good_object g.layout t h e)))
  sort_whole (X.Sel a path) =
      where_whole (is_one_step path) (of_shape (parts_shape g.layout (sort_of g a)) (part_at path))
      (λ e. parts_whole (sort_of g a) (part_at path) (sort_whole a) (λ s k. part_whole path s k))
  sort_whole (X.Upd a path v) =
      parts_whole (sort_of g a) (λ s. of_shape (shape_along g path s) (λ q. where_holds (are_same (sort_at q) (sort_of g v)) (sort_of g a))) (sort_whole a)
      (λ s k. shape_whole (shape_along g path s) (λ q. where_holds (are_same (sort_at q) (sort_of g v)) (sort_of g a))
      (λ q e. where_whole (are_same (sort_at q) (sort_of g v)) (sort_of g a) (λ e'. sort_whole a)))
  sort_whole _ = tt

  -- the type whose parts an expression's value has
  pub parts_complete : (e : X.Exp) (t : CType) → sort_of g e ≡ Some (PartsSort t) → is_complete (shape_of g.layout t) ≡ true
  parts_complete e t is = good_whole g.layout (shape_of g.layout t) (subst (λ o. IsWhole g.layout o) is (sort_whole e))

pub parts_are : (o : Option Sort) (t : CType) → Some t ≡ parts_type o → o ≡ Some (PartsSort t)
parts_are (Some (PartsSort u)) t e = let same : t ≡ u = cc in ap (λ v. Some (PartsSort v)) (sym same)
parts_are _ t e = absurd cc
