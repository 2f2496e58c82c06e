-- A word that a well-sorted expression gives is of one of the four widths, where those of the names in scope are.
use Rattle.std.proofs.Common.{◌≡◌, ◌==◌, ◌*◌, ◌/◌, ◌^◌, nat_lt, ℕ, Bool, true, false, not, cond, ◌&&◌, inl, inr, Option, Some, None, refl, subst, ap, ◌∙◌}
use Rattle.std.proofs.lemmas.Bool.{and_parts}
use Rattle.c_values.specs.Types.{Target, Ilp32, Lp64, CType, address_width}
use Rattle.c_values.specs.Layout.{IsLayout, Shape, Scalar as WordShape, Record, Row as Elements, shape_of, is_object}
use Rattle.c_values.specs.Path.{Spot, member_spot}
use Rattle.c_values.proofs.Formed.{IsAlignment}
use Rattle.c_values.proofs.Laid.{shape_good}
use Rattle.expression_lang.specs.Expression as X
use Rattle.expression_lang.specs.Expression.{Exp, Path}
use Rattle.expression_lang.specs.Sort.{Scalar, WordSort, Sort, Of, PartsSort, Scope, sort_of, shape_along, shape_in, sort_at, parts_shape, word_sort, number_sort, truth_sort, word_width, is_width, is_number, is_truth, is_word_of, is_unary, is_one_step, are_same, cast_fits, where_holds, of_words, of_word, of_shape, of_type, scalar_sort}
use Rattle.expression_lang.proofs.Good.{Good, good_object, good_member}
use Rattle.expression_lang.proofs.WholeShapes.{parts_complete}

-- a word's sort is of one of the widths
abbrev pub IsWide : Option Sort → Type 0
IsWide (Some (Of (WordSort n))) = is_width n ≡ true
IsWide o = Unit {0}

address_wide : (t : Target) → is_width (address_width t) ≡ true
address_wide Ilp32 = refl
address_wide Lp64 = refl

module _ (g : Scope) (lay : IsLayout g.layout) (wide : (x : _) (n : ℕ) → g.names x ≡ Some (WordSort n) → is_width n ≡ true) where
  where_wide : (b : Bool) (o : Option Sort) → (b ≡ true → IsWide o) → IsWide (where_holds b o)
  where_wide true o w = w refl
  where_wide false o w = tt

  truth_wide : (b : Bool) → IsWide (where_holds b truth_sort)
  truth_wide b = where_wide b truth_sort (λ e. tt)

  number_wide : (b : Bool) → IsWide (where_holds b number_sort)
  number_wide b = where_wide b number_sort (λ e. tt)

  words_wide : (o q : Option Sort) → IsWide o → IsWide (of_words (word_width o) (word_width q) word_sort)
  words_wide (Some (Of (WordSort m))) q w = by_other (word_width q)
    where
      by_other : (p : Option ℕ) → IsWide (of_words (Some m) p word_sort)
      by_other (Some n) = where_wide (m == n) (word_sort m) (λ e. w)
      by_other None = tt
  words_wide _ _ _ = tt

  word_wide : (o : Option Sort) → IsWide o → IsWide (of_word (word_width o) word_sort)
  word_wide (Some (Of (WordSort m))) w = w
  word_wide _ _ = tt

  some_word : (o : Option ℕ) (f : ℕ → Option Sort) → ((n : ℕ) → IsWide (f n)) → IsWide (of_word o f)
  some_word (Some n) f w = w n
  some_word None f w = tt

  both_words : (o q : Option ℕ) → IsWide (of_words o q (λ n. truth_sort))
  both_words (Some m) (Some n) = truth_wide (m == n)
  both_words _ _ = tt

  shape_wide : (o : Option Shape) (f : Shape → Option Sort) → ((s : Shape) → o ≡ Some s → IsWide (f s)) → IsWide (of_shape o f)
  shape_wide (Some s) f w = w s refl
  shape_wide None f w = tt

  type_wide : (o : Option CType) (f : CType → Option Sort) → ((t : CType) → IsWide (f t)) → IsWide (of_type o f)
  type_wide (Some t) f w = w t
  type_wide None f w = tt

  name_wide : (o : Option Scalar) → ((n : ℕ) → o ≡ Some (WordSort n) → is_width n ≡ true) → IsWide (scalar_sort o)
  name_wide (Some (WordSort n)) w = w n refl
  name_wide _ _ = tt

  aligned_wide : (n a : ℕ) → n ≡ 8 * a → IsAlignment a → is_width n ≡ true
  aligned_wide n a e (inl h) = ap is_width (e ∙ ap (λ b. 8 * b) h)
  aligned_wide n a e (inr (inl h)) = ap is_width (e ∙ ap (λ b. 8 * b) h)
  aligned_wide n a e (inr (inr (inl h))) = ap is_width (e ∙ ap (λ b. 8 * b) h)
  aligned_wide n a e (inr (inr (inr h))) = ap is_width (e ∙ ap (λ b. 8 * b) h)

  place_wide : (s : Shape) → Good g.layout s → IsWide (sort_at s)
  place_wide (WordShape t n) k = aligned_wide n (n / 8) k.formed.whole k.formed.bytes
  place_wide _ _ = tt

  -- the shape that a path leads to
  along_good : (path : Path) (s q : Shape) → shape_along g path s ≡ Some q → Good g.layout s → Good g.layout q
  along_good X.Here s q e k = let same : s ≡ q = cc in subst (λ r. Good g.layout r) same k
  along_good (X.IntoField i path) (Record x n align fs) q e k = by_member (member_spot fs i) refl e (λ r. along_good path r q)
    where
      by_member : (o : Option Spot) → member_spot fs i ≡ o → shape_in o (λ r. shape_along g path r) ≡ Some q →
          ((r : Shape) → shape_along g path r ≡ Some q → Good g.layout r → Good g.layout q) → Good g.layout q
      by_member None same e' rest = absurd cc
      by_member (Some r) same e' rest = rest r.shape e' (good_member g.layout fs align n 0 i r k.formed.members k.laid.members same)
  along_good (X.IntoElement i path) (Elements r n) q e k = by_index (is_number (sort_of g i)) e (along_good path r q)
    where
      by_index : (b : Bool) → cond b (shape_along g path r) None ≡ Some q → (shape_along g path r ≡ Some q → Good g.layout r → Good g.layout q) → Good g.layout q
      by_index true e' rest = rest e' (record { formed = k.formed.element; laid = k.laid })
      by_index false e' rest = absurd cc
  along_good _ _ q e k = absurd cc

  part_wide : (path : Path) (s : Shape) → Good g.layout s → IsWide (of_shape (shape_along g path s) sort_at)
  part_wide path s k = shape_wide (shape_along g path s) sort_at (λ q e. place_wide q (along_good path s q e k))

  root_wide : (t : CType) (b : Bool) (path : Path) → IsWide (where_holds (is_object g.layout t && b) (of_shape (shape_along g path (shape_of g.layout t)) sort_at))
  root_wide t b path =
      where_wide (is_object g.layout t && b) (of_shape (shape_along g path (shape_of g.layout t)) sort_at)
      (λ e. part_wide path (shape_of g.layout t) (good_object g.layout t lay (and_parts (is_object g.layout t) b e).0))

  address_sort : IsWide (word_sort (address_width g.layout.target))
  address_sort = address_wide g.layout.target

  -- a value that has parts
  parts_wide : (o : Option Sort) (f : Shape → Option Sort) → ((t : CType) → o ≡ Some (PartsSort t) → IsWide (f (shape_of g.layout t))) → IsWide (of_shape (parts_shape g.layout o) f)
  parts_wide (Some (PartsSort t)) f w = w t refl
  parts_wide _ _ _ = tt

  pub expression_wide : (e : Exp) → IsWide (sort_of g e)
  expression_wide (X.Var x) = name_wide (g.names x) (wide x)
  expression_wide (X.WordLit w) = where_wide (is_width w.width && nat_lt w.bits (2 ^ w.width)) (word_sort w.width) (λ e. (and_parts (is_width w.width) (nat_lt w.bits (2 ^ w.width)) e).0)
  expression_wide (X.WordBinary op a b) = words_wide (sort_of g a) (sort_of g b) (expression_wide a)
  expression_wide (X.WordShift op a n) = where_wide (is_number (sort_of g n)) (of_word (word_width (sort_of g a)) word_sort) (λ e. word_wide (sort_of g a) (expression_wide a))
  expression_wide (X.WordUnary op a) = word_wide (sort_of g a) (expression_wide a)
  expression_wide (X.WordCompare op a b) = both_words (word_width (sort_of g a)) (word_width (sort_of g b))
  expression_wide (X.Cast op m a) =
      some_word (word_width (sort_of g a)) (λ from. where_holds (is_width m && cast_fits op from m) (word_sort m))
      (λ from. where_wide (is_width m && cast_fits op from m) (word_sort m) (λ e. (and_parts (is_width m) (cast_fits op from m) e).0))
  expression_wide (X.ToNat a) = some_word (word_width (sort_of g a)) (λ n. number_sort) (λ n. tt)
  expression_wide (X.ToInt a) = some_word (word_width (sort_of g a)) (λ n. number_sort) (λ n. tt)
  expression_wide (X.ToWord m a) = where_wide (is_width m && is_number (sort_of g a)) (word_sort m) (λ e. (and_parts (is_width m) (is_number (sort_of g a)) e).0)
  expression_wide (X.Arith op a b) = number_wide ((not (is_unary op) && is_number (sort_of g a)) && is_number (sort_of g b))
  expression_wide (X.Negate a) = number_wide (is_number (sort_of g a))
  expression_wide (X.Lt a b) = truth_wide (is_number (sort_of g a) && is_number (sort_of g b))
  expression_wide (X.Le a b) = truth_wide (is_number (sort_of g a) && is_number (sort_of g b))
  expression_wide (X.Between low a high) = truth_wide (is_number (sort_of g a))
  expression_wide (X.Eq a b) = truth_wide (are_same (sort_of g a) (sort_of g b))
  expression_wide (X.And a b) = truth_wide (is_truth (sort_of g a) && is_truth (sort_of g b))
  expression_wide (X.Or a b) = truth_wide (is_truth (sort_of g a) && is_truth (sort_of g b))
  expression_wide (X.Imp a b) = truth_wide (is_truth (sort_of g a) && is_truth (sort_of g b))
  expression_wide (X.Not a) = truth_wide (is_truth (sort_of g a))
  expression_wide (X.If c a b) = where_wide (is_truth (sort_of g c) && are_same (sort_of g a) (sort_of g b)) (sort_of g a) (λ e. expression_wide a)
  expression_wide (X.Padd t p n) =
      where_wide ((is_object g.layout t && is_word_of (address_width g.layout.target) (sort_of g p)) && is_number (sort_of g n)) (word_sort (address_width g.layout.target)) (λ e. address_sort)
  expression_wide (X.At t p path) =
      where_wide (is_object g.layout t && is_word_of (address_width g.layout.target) (sort_of g p)) (of_shape (shape_along g path (shape_of g.layout t)) (λ s. word_sort (address_width g.layout.target)))
      (λ e. shape_wide (shape_along g path (shape_of g.layout t)) (λ s. word_sort (address_width g.layout.target)) (λ q e'. address_sort))
  expression_wide (X.Load t p path) = root_wide t (is_word_of (address_width g.layout.target) (sort_of g p)) path
  expression_wide (X.Read t p path) = root_wide t (is_word_of (address_width g.layout.target) (sort_of g p)) path
  expression_wide (X.Tagged t p) = truth_wide (is_object g.layout t && is_word_of (address_width g.layout.target) (sort_of g p))
  expression_wide (X.PtrOk t p) = truth_wide (is_object g.layout t && is_word_of (address_width g.layout.target) (sort_of g p))
  expression_wide (X.Global x path) =
      type_wide (g.globals x) (λ t. where_holds (is_object g.layout t) (of_shape (shape_along g path (shape_of g.layout t)) sort_at))
      (λ t. where_wide (is_object g.layout t) (of_shape (shape_along g path (shape_of g.layout t)) sort_at) (λ e. part_wide path (shape_of g.layout t) (good_object g.layout t lay e)))
  expression_wide (X.Sel a path) =
      where_wide (is_one_step path) (of_shape (parts_shape g.layout (sort_of g a)) (λ s. of_shape (shape_along g path s) sort_at))
      (λ e. parts_wide (sort_of g a) (λ s. of_shape (shape_along g path s) sort_at) (λ t q. part_wide path (shape_of g.layout t) (shape_good g.layout lay t (parts_complete g lay a t q))))
  expression_wide (X.Upd a path v) =
      parts_wide (sort_of g a) (λ s. of_shape (shape_along g path s) (λ q. where_holds (are_same (sort_at q) (sort_of g v)) (sort_of g a)))
      (λ t i. shape_wide (shape_along g path (shape_of g.layout t)) (λ q. where_holds (are_same (sort_at q) (sort_of g v)) (sort_of g a))
      (λ q e. where_wide (are_same (sort_at q) (sort_of g v)) (sort_of g a) (λ e'. expression_wide a)))
  expression_wide _ = tt

  -- so words of the scope have one of the four widths
  pub has_widths : (e : Exp) (n : ℕ) → sort_of g e ≡ word_sort n → is_width n ≡ true
  has_widths e n h = subst (λ o. IsWide o) h (expression_wide e)
