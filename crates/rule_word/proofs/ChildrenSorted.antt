-- The children of a well-sorted expression are well-sorted.
use Rattle.std.proofs.Common.{◌≡◌, Bool, true, false, cond, not, ◌&&◌, List, [], ◌∷◌, ◌++◌, Option, Some, None, refl}
use Rattle.std.proofs.lemmas.Bool.{and_parts}
use Rattle.c_values.specs.Types.{CType, address_width}
use Rattle.c_values.specs.Layout.{Shape, Record, Row as Elements, shape_of, is_object}
use Rattle.c_values.specs.Path.{member_spot, Spot}
use Rattle.expression_lang.specs.Expression as X
use Rattle.expression_lang.specs.Expression.{Exp, Path}
use Rattle.expression_lang.specs.Sort.{Sort, Of, PartsSort, WordSort, NumberSort, TruthSort, Scope, sort_of, shape_along, shape_in, sort_at, parts_shape, word_sort, number_sort, truth_sort, word_width, is_number, is_truth, is_word_of, is_width, is_unary, is_one_step, are_same, cast_fits, where_holds, of_words, of_word, of_shape}
use Rattle.expression_lang.proofs.Inversion.{where_inv, words_inv, word_inv, width_inv, number_inv, truth_inv, word_of_inv, same_inv, shape_inv, type_inv, parts_inv}
use Rattle.ac_expr.specs.Heads.{children, path_children}
use Rattle.rule_word.specs.CodeFits as fits

module _ (g : Scope) where
  abbrev pub IsSorted : Exp → Type 0
  IsSorted e = fits.IsSorted g e

  abbrev pub AreSorted : List Exp → Type 0
  AreSorted es = fits.AreSorted g es

  pub path_sorted : (path : Path) (s q : Shape) → shape_along g path s ≡ Some q → AreSorted (path_children path)
  path_sorted X.Here s q h = tt
  path_sorted (X.IntoField k path) (Record y n align ms) q h = by_member (member_spot ms k) h (λ r. path_sorted path r q)
    where
      by_member : (o : Option Spot) → shape_in o (λ s. shape_along g path s) ≡ Some q → ((r : Shape) → shape_along g path r ≡ Some q → AreSorted (path_children path)) → AreSorted (path_children path)
      by_member None h rest = absurd cc
      by_member (Some r) h rest = rest r.shape h
  path_sorted (X.IntoElement e path) (Elements r n) q h = by_index (is_number (sort_of g e)) refl h (λ k. path_sorted path r q k)
    where
      by_index : (b : Bool) → is_number (sort_of g e) ≡ b → cond b (shape_along g path r) None ≡ Some q → (shape_along g path r ≡ Some q → AreSorted (path_children path)) → AreSorted (e ∷ path_children path)
      by_index true i h rest = ((Of NumberSort, number_inv (sort_of g e) i), rest h)
      by_index false i h rest = absurd cc
  path_sorted _ _ q h = absurd cc

  pub and_one : (es : List Exp) (e : Exp) → AreSorted es → IsSorted e → AreSorted (es ++ (e ∷ []))
  and_one [] e h k = (k, tt)
  and_one (d ∷ es) e h k = (h.0, and_one es e h.1 k)

  two_numbers : (a b : Exp) → (is_number (sort_of g a) && is_number (sort_of g b)) ≡ true → AreSorted (a ∷ b ∷ [])
  two_numbers a b h =
      let r = and_parts (is_number (sort_of g a)) (is_number (sort_of g b)) h in
      ((Of NumberSort, number_inv (sort_of g a) r.0), ((Of NumberSort, number_inv (sort_of g b) r.1), tt))

  two_truths : (a b : Exp) (s : Sort) → where_holds (is_truth (sort_of g a) && is_truth (sort_of g b)) truth_sort ≡ Some s → AreSorted (a ∷ b ∷ [])
  two_truths a b s q =
      let r = and_parts (is_truth (sort_of g a)) (is_truth (sort_of g b)) (where_inv (is_truth (sort_of g a) && is_truth (sort_of g b)) truth_sort s q).0 in
      ((Of TruthSort, truth_inv (sort_of g a) r.0), ((Of TruthSort, truth_inv (sort_of g b) r.1), tt))

  two_words : (a b : Exp) (f : _ → Option Sort) (s : Sort) → of_words (word_width (sort_of g a)) (word_width (sort_of g b)) f ≡ Some s → AreSorted (a ∷ b ∷ [])
  two_words a b f s q =
      let i = words_inv (word_width (sort_of g a)) (word_width (sort_of g b)) f s q in
      ((Of (WordSort i.0), width_inv (sort_of g a) i.0 i.1), ((Of (WordSort i.0), width_inv (sort_of g b) i.0 i.2), tt))

  one_word : (a : Exp) (f : _ → Option Sort) (s : Sort) → of_word (word_width (sort_of g a)) f ≡ Some s → IsSorted a
  one_word a f s q = let i = word_inv (word_width (sort_of g a)) f s q in (Of (WordSort i.0), width_inv (sort_of g a) i.0 i.1)

  a_number : (a : Exp) → is_number (sort_of g a) ≡ true → IsSorted a
  a_number a h = (Of NumberSort, number_inv (sort_of g a) h)

  an_address : (t : CType) (p : Exp) → (is_object g.layout t && is_word_of (address_width g.layout.target) (sort_of g p)) ≡ true → IsSorted p
  an_address t p h =
      (Of (WordSort (address_width g.layout.target)), word_of_inv (address_width g.layout.target) (sort_of g p) (and_parts (is_object g.layout t) (is_word_of (address_width g.layout.target) (sort_of g p)) h).1)

  at_path : (t : CType) (p : Exp) (path : Path) (f : Shape → Option Sort) (s : Sort) →
      where_holds (is_object g.layout t && is_word_of (address_width g.layout.target) (sort_of g p)) (of_shape (shape_along g path (shape_of g.layout t)) f) ≡ Some s → AreSorted (p ∷ path_children path)
  at_path t p path f s q =
      let r = where_inv (is_object g.layout t && is_word_of (address_width g.layout.target) (sort_of g p)) (of_shape (shape_along g path (shape_of g.layout t)) f) s q in
      let i = shape_inv (shape_along g path (shape_of g.layout t)) f s r.1 in
      (an_address t p r.0, path_sorted path (shape_of g.layout t) i.0 i.1)

  pub children_sorted : (e : Exp) (s : Sort) → sort_of g e ≡ Some s → AreSorted (children e)
  children_sorted (X.WordBinary op a b) s q = two_words a b word_sort s q
  children_sorted (X.WordShift op a n) s q =
      let r = where_inv (is_number (sort_of g n)) (of_word (word_width (sort_of g a)) word_sort) s q in (one_word a word_sort s r.1, (a_number n r.0, tt))
  children_sorted (X.WordUnary op a) s q = (one_word a word_sort s q, tt)
  children_sorted (X.WordCompare test a b) s q = two_words a b (λ n. truth_sort) s q
  children_sorted (X.Cast op m a) s q = (one_word a (λ from. where_holds (is_width m && cast_fits op from m) (word_sort m)) s q, tt)
  children_sorted (X.ToNat a) s q = (one_word a (λ n. number_sort) s q, tt)
  children_sorted (X.ToInt a) s q = (one_word a (λ n. number_sort) s q, tt)
  children_sorted (X.ToWord m a) s q =
      (a_number a (and_parts (is_width m) (is_number (sort_of g a)) (where_inv (is_width m && is_number (sort_of g a)) (word_sort m) s q).0).1, tt)
  children_sorted (X.Arith op a b) s q =
      let r = where_inv (not (is_unary op) && is_number (sort_of g a) && is_number (sort_of g b)) number_sort s q in
      let c = and_parts (not (is_unary op) && is_number (sort_of g a)) (is_number (sort_of g b)) r.0 in
      (a_number a (and_parts (not (is_unary op)) (is_number (sort_of g a)) c.0).1, (a_number b c.1, tt))
  children_sorted (X.Negate a) s q = (a_number a (where_inv (is_number (sort_of g a)) number_sort s q).0, tt)
  children_sorted (X.Lt a b) s q = two_numbers a b (where_inv (is_number (sort_of g a) && is_number (sort_of g b)) truth_sort s q).0
  children_sorted (X.Le a b) s q = two_numbers a b (where_inv (is_number (sort_of g a) && is_number (sort_of g b)) truth_sort s q).0
  children_sorted (X.Between low a high) s q = (a_number a (where_inv (is_number (sort_of g a)) truth_sort s q).0, tt)
  children_sorted (X.Eq a b) s q =
      let r = same_inv (sort_of g a) (sort_of g b) (where_inv (are_same (sort_of g a) (sort_of g b)) truth_sort s q).0 in ((r.0, r.1), ((r.0, r.2), tt))
  children_sorted (X.And a b) s q = two_truths a b s q
  children_sorted (X.Or a b) s q = two_truths a b s q
  children_sorted (X.Imp a b) s q = two_truths a b s q
  children_sorted (X.Not a) s q = ((Of TruthSort, truth_inv (sort_of g a) (where_inv (is_truth (sort_of g a)) truth_sort s q).0), tt)
  children_sorted (X.If c a b) s q =
      let r = where_inv (is_truth (sort_of g c) && are_same (sort_of g a) (sort_of g b)) (sort_of g a) s q in
      let d = and_parts (is_truth (sort_of g c)) (are_same (sort_of g a) (sort_of g b)) r.0 in
      let i = same_inv (sort_of g a) (sort_of g b) d.1 in
      ((Of TruthSort, truth_inv (sort_of g c) d.0), ((i.0, i.1), ((i.0, i.2), tt)))
  children_sorted (X.Padd t p n) s q =
      let r = where_inv (is_object g.layout t && is_word_of (address_width g.layout.target) (sort_of g p) && is_number (sort_of g n)) (word_sort (address_width g.layout.target)) s q in
      let c = and_parts (is_object g.layout t && is_word_of (address_width g.layout.target) (sort_of g p)) (is_number (sort_of g n)) r.0 in
      (an_address t p c.0, (a_number n c.1, tt))
  children_sorted (X.At t p path) s q = at_path t p path (λ r. word_sort (address_width g.layout.target)) s q
  children_sorted (X.Load t p path) s q = at_path t p path sort_at s q
  children_sorted (X.Read t p path) s q = at_path t p path sort_at s q
  children_sorted (X.Tagged t p) s q = (an_address t p (where_inv (is_object g.layout t && is_word_of (address_width g.layout.target) (sort_of g p)) truth_sort s q).0, tt)
  children_sorted (X.PtrOk t p) s q = (an_address t p (where_inv (is_object g.layout t && is_word_of (address_width g.layout.target) (sort_of g p)) truth_sort s q).0, tt)
  children_sorted (X.Global x path) s q =
      let a = type_inv (g.globals x) (λ t. where_holds (is_object g.layout t) (of_shape (shape_along g path (shape_of g.layout t)) sort_at)) s q in
      let r = where_inv (is_object g.layout a.0) (of_shape (shape_along g path (shape_of g.layout a.0)) sort_at) s a.2 in
      let i = shape_inv (shape_along g path (shape_of g.layout a.0)) sort_at s r.1 in
      path_sorted path (shape_of g.layout a.0) i.0 i.1
  children_sorted (X.Sel e path) s q =
      let r = where_inv (is_one_step path) (of_shape (parts_shape g.layout (sort_of g e)) (λ p. of_shape (shape_along g path p) sort_at)) s q in
      let a = shape_inv (parts_shape g.layout (sort_of g e)) (λ p. of_shape (shape_along g path p) sort_at) s r.1 in
      let b = parts_inv g.layout (sort_of g e) a.0 a.1 in
      let c = shape_inv (shape_along g path a.0) sort_at s a.2 in
      ((PartsSort b.0, b.1), path_sorted path a.0 c.0 c.1)
  children_sorted (X.Upd e path x) s q =
      let a = shape_inv (parts_shape g.layout (sort_of g e)) (λ r. of_shape (shape_along g path r) (λ p. where_holds (are_same (sort_at p) (sort_of g x)) (sort_of g e))) s q in
      let b = parts_inv g.layout (sort_of g e) a.0 a.1 in
      let c = shape_inv (shape_along g path a.0) (λ p. where_holds (are_same (sort_at p) (sort_of g x)) (sort_of g e)) s a.2 in
      let d = where_inv (are_same (sort_at c.0) (sort_of g x)) (sort_of g e) s c.2 in
      let r = same_inv (sort_at c.0) (sort_of g x) d.0 in
      ((PartsSort b.0, b.1), and_one (path_children path) x (path_sorted path a.0 c.0 c.1) (r.0, r.2))
  children_sorted _ _ _ = tt
