-- Two expressions with one head have one sort where their children do, in scopes with one layout and the same globals.
use Rattle.std.proofs.Common.{◌≡◌, ℕ, not, cond, ◌&&◌, List, [], ◌∷◌, Option, Some, None, refl, sym, ap, ap₂, ◌∙◌}
use Rattle.c_values.specs.Name.{Name}
use Rattle.c_values.specs.Types.{CType, address_width}
use Rattle.c_values.specs.Layout.{Layout, Shape, Record, Row, shape_of, is_object}
use Rattle.c_values.specs.Path.{Spot, member_spot}
use Rattle.expression_lang.specs.Expression.{Exp, Var, WordBinary, WordShift, WordUnary, WordCompare, Cast, ToNat, ToInt, ToWord, Arith, Negate, Lt, Le, Between, Eq, And, Or, Imp, Not, If, Padd, At, Load, Read, Tagged, PtrOk, Global, Sel, Upd, Path, Here, IntoField, IntoElement}
use Rattle.expression_lang.specs.Sort.{Scalar, Sort, Scope, sort_of, shape_along, shape_in, sort_at, is_width, word_width, is_word_of, is_number, is_truth, number_sort, truth_sort, where_holds, of_words, of_word, word_sort, are_same, of_shape, of_type, parts_shape, cast_fits, is_unary, is_one_step}
use Rattle.ac_expr.specs.Heads.{children, head}
use Rattle.ac_expr.proofs.HeadsAgree.{first, others, path_filled, left_by, filled, whole}

module _ (l : Layout) (globals : Name → Option CType) (names names' : Name → Option Scalar) where
  abbrev g : Scope
  g = record { layout = l; names = names; globals = globals }

  abbrev g' : Scope
  g' = record { layout = l; names = names'; globals = globals }

  abbrev pub sorts_in : Scope → List Exp → List (Option Sort)
  sorts_in s [] = []
  sorts_in s (e ∷ es) = sort_of s e ∷ sorts_in s es

  abbrev pub SameSorts : List Exp → List Exp → Type 0
  SameSorts es es' = sorts_in g' es' ≡ sorts_in g es

  abbrev first_sort : List (Option Sort) → Option Sort
  first_sort [] = truth_sort
  first_sort (o ∷ os) = o

  abbrev other_sorts : List (Option Sort) → List (Option Sort)
  other_sorts [] = []
  other_sorts (o ∷ os) = os

  firsts : (es es' : List Exp) → SameSorts es es' → sort_of g' (first es') ≡ sort_of g (first es)
  firsts [] [] h = refl
  firsts (e ∷ es) (e' ∷ es') h = ap first_sort h
  firsts [] (e' ∷ es') h = absurd cc
  firsts (e ∷ es) [] h = absurd cc

  rest : (es es' : List Exp) → SameSorts es es' → SameSorts (others es) (others es')
  rest [] [] h = refl
  rest (e ∷ es) (e' ∷ es') h = ap other_sorts h
  rest [] (e' ∷ es') h = absurd cc
  rest (e ∷ es) [] h = absurd cc

  by_member : (o : Option Spot) (f k : Shape → Option Shape) → ((s : Shape) → f s ≡ k s) → shape_in o f ≡ shape_in o k
  by_member None f k h = refl
  by_member (Some q) f k h = h q.shape

  along : (path : Path) (es es' : List Exp) → SameSorts es es' → (s : Shape) → shape_along g' (path_filled path es') s ≡ shape_along g (path_filled path es) s
  along (IntoField k path) es es' h (Record x n align ms) = by_member (member_spot ms k) (λ s. shape_along g' (path_filled path es') s) (λ s. shape_along g (path_filled path es) s) (λ s. along path es es' h s)
  along (IntoElement e path) es es' h (Row s n) = ap₂ (λ b o. cond b o None) (ap is_number (firsts es es' h)) (along path (others es) (others es') (rest es es' h) s)
  along _ _ _ _ _ = refl

  lefts : (path : Path) (es es' : List Exp) → SameSorts es es' → SameSorts (left_by path es) (left_by path es')
  lefts Here es es' h = h
  lefts (IntoField k path) es es' h = lefts path es es' h
  lefts (IntoElement e path) es es' h = lefts path (others es) (others es') (rest es es' h)

  at_end : (f k : Shape → Option Shape) (o : Option Shape) (t : Shape → Option Sort) → ((s : Shape) → f s ≡ k s) → of_shape o (λ s. of_shape (f s) t) ≡ of_shape o (λ s. of_shape (k s) t)
  at_end f k None t h = refl
  at_end f k (Some s) t h = ap (λ o. of_shape o t) (h s)

  at_type : (o : Option CType) (f k : Shape → Option Shape) → ((s : Shape) → f s ≡ k s) →
      of_type o (λ t. where_holds (is_object l t) (of_shape (f (shape_of l t)) sort_at)) ≡ of_type o (λ t. where_holds (is_object l t) (of_shape (k (shape_of l t)) sort_at))
  at_type None f k h = refl
  at_type (Some t) f k h = ap (λ q. where_holds (is_object l t) (of_shape q sort_at)) (h (shape_of l t))

  one_step : (path : Path) (es es' : List Exp) → is_one_step (path_filled path es') ≡ is_one_step (path_filled path es)
  one_step (IntoField k Here) es es' = refl
  one_step (IntoElement e Here) es es' = refl
  one_step _ _ _ = refl

  abbrev pub IsNoName : Exp → Type 0
  IsNoName (Var x) = ⊥
  IsNoName e = Unit {0}

  abbrev w : ℕ
  w = address_width l.target

  filled_sort : (e : Exp) (es es' : List Exp) → IsNoName e → SameSorts es es' → sort_of g' (filled e es') ≡ sort_of g (filled e es)
  filled_sort (Var x) es es' i h = absurd i
  filled_sort (WordBinary op a b) es es' i h = ap₂ (λ o q. of_words (word_width o) (word_width q) word_sort) (firsts es es' h) (firsts (others es) (others es') (rest es es' h))
  filled_sort (WordShift op a b) es es' i h = ap₂ (λ o q. where_holds (is_number q) (of_word (word_width o) word_sort)) (firsts es es' h) (firsts (others es) (others es') (rest es es' h))
  filled_sort (WordUnary op a) es es' i h = ap (λ o. of_word (word_width o) word_sort) (firsts es es' h)
  filled_sort (WordCompare op a b) es es' i h = ap₂ (λ o q. of_words (word_width o) (word_width q) (λ n. truth_sort)) (firsts es es' h) (firsts (others es) (others es') (rest es es' h))
  filled_sort (Cast op n a) es es' i h = ap (λ o. of_word (word_width o) (λ from. where_holds (is_width n && cast_fits op from n) (word_sort n))) (firsts es es' h)
  filled_sort (ToNat a) es es' i h = ap (λ o. of_word (word_width o) (λ n. number_sort)) (firsts es es' h)
  filled_sort (ToInt a) es es' i h = ap (λ o. of_word (word_width o) (λ n. number_sort)) (firsts es es' h)
  filled_sort (ToWord n a) es es' i h = ap (λ o. where_holds (is_width n && is_number o) (word_sort n)) (firsts es es' h)
  filled_sort (Arith op a b) es es' i h = ap₂ (λ o q. where_holds (not (is_unary op) && is_number o && is_number q) number_sort) (firsts es es' h) (firsts (others es) (others es') (rest es es' h))
  filled_sort (Negate a) es es' i h = ap (λ o. where_holds (is_number o) number_sort) (firsts es es' h)
  filled_sort (Lt a b) es es' i h = ap₂ (λ o q. where_holds (is_number o && is_number q) truth_sort) (firsts es es' h) (firsts (others es) (others es') (rest es es' h))
  filled_sort (Le a b) es es' i h = ap₂ (λ o q. where_holds (is_number o && is_number q) truth_sort) (firsts es es' h) (firsts (others es) (others es') (rest es es' h))
  filled_sort (Between low a high) es es' i h = ap (λ o. where_holds (is_number o) truth_sort) (firsts es es' h)
  filled_sort (Eq a b) es es' i h = ap₂ (λ o q. where_holds (are_same o q) truth_sort) (firsts es es' h) (firsts (others es) (others es') (rest es es' h))
  filled_sort (And a b) es es' i h = ap₂ (λ o q. where_holds (is_truth o && is_truth q) truth_sort) (firsts es es' h) (firsts (others es) (others es') (rest es es' h))
  filled_sort (Or a b) es es' i h = ap₂ (λ o q. where_holds (is_truth o && is_truth q) truth_sort) (firsts es es' h) (firsts (others es) (others es') (rest es es' h))
  filled_sort (Imp a b) es es' i h = ap₂ (λ o q. where_holds (is_truth o && is_truth q) truth_sort) (firsts es es' h) (firsts (others es) (others es') (rest es es' h))
  filled_sort (Not a) es es' i h = ap (λ o. where_holds (is_truth o) truth_sort) (firsts es es' h)
  filled_sort (If a b c) es es' i h =
      let k = rest es es' h in
      let j = rest (others es) (others es') k in
      ap₂ (λ o q. where_holds (is_truth o && are_same q (sort_of g' (first (others (others es'))))) q) (firsts es es' h) (firsts (others es) (others es') k)
      ∙ ap (λ r. where_holds (is_truth (sort_of g (first es)) && are_same (sort_of g (first (others es))) r) (sort_of g (first (others es)))) (firsts (others (others es)) (others (others es')) j)
  filled_sort (Padd t a b) es es' i h = ap₂ (λ o q. where_holds (is_object l t && is_word_of w o && is_number q) (word_sort w)) (firsts es es' h) (firsts (others es) (others es') (rest es es' h))
  filled_sort (At t a path) es es' i h = ap₂ (λ o q. where_holds (is_object l t && is_word_of w o) (of_shape q (λ s. word_sort w))) (firsts es es' h) (along path (others es) (others es') (rest es es' h) (shape_of l t))
  filled_sort (Load t a path) es es' i h = ap₂ (λ o q. where_holds (is_object l t && is_word_of w o) (of_shape q sort_at)) (firsts es es' h) (along path (others es) (others es') (rest es es' h) (shape_of l t))
  filled_sort (Read t a path) es es' i h = ap₂ (λ o q. where_holds (is_object l t && is_word_of w o) (of_shape q sort_at)) (firsts es es' h) (along path (others es) (others es') (rest es es' h) (shape_of l t))
  filled_sort (Tagged t a) es es' i h = ap (λ o. where_holds (is_object l t && is_word_of w o) truth_sort) (firsts es es' h)
  filled_sort (PtrOk t a) es es' i h = ap (λ o. where_holds (is_object l t && is_word_of w o) truth_sort) (firsts es es' h)
  filled_sort (Global x path) es es' i h = at_type (globals x) (λ s. shape_along g' (path_filled path es') s) (λ s. shape_along g (path_filled path es) s) (λ s. along path es es' h s)
  filled_sort (Sel a path) es es' i h =
      ap₂ (λ b o. where_holds b (of_shape (parts_shape l o) (λ s. of_shape (shape_along g' (path_filled path (others es')) s) sort_at))) (one_step path (others es) (others es')) (firsts es es' h)
      ∙ ap (λ o. where_holds (is_one_step (path_filled path (others es))) o) (at_end (λ s. shape_along g' (path_filled path (others es')) s) (λ s. shape_along g (path_filled path (others es)) s) (parts_shape l (sort_of g (first es))) sort_at (λ s. along path (others es) (others es') (rest es es' h) s))
  filled_sort (Upd a path b) es es' i h =
      let k = rest es es' h in
      let j = lefts path (others es) (others es') k in
      ap₂ (λ o q. of_shape (parts_shape l o) (λ s. of_shape (shape_along g' (path_filled path (others es')) s) (λ r. where_holds (are_same (sort_at r) q) o))) (firsts es es' h) (firsts (left_by path (others es)) (left_by path (others es')) j)
      ∙ at_end (λ s. shape_along g' (path_filled path (others es')) s) (λ s. shape_along g (path_filled path (others es)) s) (parts_shape l (sort_of g (first es))) (λ r. where_holds (are_same (sort_at r) (sort_of g (first (left_by path (others es))))) (sort_of g (first es))) (λ s. along path (others es) (others es') k s)
  filled_sort _ _ _ _ _ = refl

  head_named : (e : Exp) → IsNoName e → IsNoName (head e)
  head_named (Var x) i = absurd i
  head_named e i = tt

  pub heads_sorted : (a b : Exp) → IsNoName a → head b ≡ head a → SameSorts (children a) (children b) → sort_of g' b ≡ sort_of g a
  heads_sorted a b i h k =
      ap (λ e. sort_of g' e) (sym (whole b)) ∙ ap (λ e. sort_of g' (filled e (children b))) h
      ∙ filled_sort (head a) (children a) (children b) (head_named a i) k ∙ ap (λ e. sort_of g e) (whole a)
