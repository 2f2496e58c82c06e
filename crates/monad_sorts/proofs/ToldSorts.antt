-- What is told of the scalar of a well-sorted expression is its scalar.
use Rattle.std.proofs.Common.{◌≡◌, ℕ, Bool, true, false, cond, ◌&&◌, ◌||◌, List, [], ◌∷◌, map, Option, Some, None, refl, sym, ap, ap₂, ◌∙◌}
use Rattle.std.proofs.lemmas.Bool.{or_parts}
use Rattle.c_values.specs.Types.{CType, address_width}
use Rattle.c_values.specs.Layout.{Shape, Scalar as WordShape, Record, Row, shape_of, is_object}
use Rattle.c_values.specs.Path.{Spot, member_spot}
use Rattle.expression_lang.specs.Expression.{Exp, Var, WordLit, NumberLit, TruthLit, WordBinary, WordShift, WordUnary, WordCompare, Cast, ToNat, ToInt, ToWord, Arith, Negate, Lt, Le, Between, Eq, And, Or, Imp, Not, If, Padd, At, Load, Read, Tagged, PtrOk, Global, Path, Here, IntoField, IntoElement}
use Rattle.expression_lang.specs.Form.{has, is_part_of_value}
use Rattle.expression_lang.specs.Sort.{Scalar, WordSort, NumberSort, TruthSort, Sort, Of, Scope, sort_of, shape_along, shape_in, sort_at, scalar_sort, word_width, is_number, is_truth, is_width, cast_fits, number_sort, truth_sort, word_sort, where_holds, of_words, of_word, are_same, of_shape, of_type}
use Rattle.expression_lang.specs.Sorted.{program_sort, scalar_in, with_scalar, scalars_of}
use Rattle.expression_lang.proofs.Inversion.{where_inv, words_inv, word_inv, width_inv, same_inv, shape_inv}
use Rattle.monad_lang.specs.Program.{Start}
use Rattle.monad_lang.specs.Sorted.{start_scalars}
use Rattle.monad_sorts.specs.CodeTold.{shape_through, scalar_at, part_told, global_told, told, all_told, starts_told}

abbrev somes : List Scalar → List (Option Scalar)
somes ss = map (λ s. Some s) ss

scalar_is : (a s : Scalar) → ◌≡◌ {A = Option Sort} (Some (Of a)) (Some (Of s)) → ◌≡◌ {A = Option Scalar} (Some a) (Some s)
scalar_is a s h = cc

-- the scalar that stands behind a test
where_is : (b : Bool) (a s : Scalar) → where_holds b (Some (Of a)) ≡ Some (Of s) → ◌≡◌ {A = Option Scalar} (Some a) (Some s)
where_is b a s h = scalar_is a s (where_inv b (Some (Of a)) (Of s) h).1

name_is : (o : Option Scalar) (s : Scalar) → scalar_sort o ≡ Some (Of s) → o ≡ Some s
name_is None s h = absurd cc
name_is (Some a) s h = scalar_is a s h

-- paths

into_is : (o : Option Spot) (f h : Shape → Option Shape) (q : Shape) → ((s : Shape) → f s ≡ Some q → h s ≡ Some q) →
    shape_in o f ≡ Some q → shape_in o h ≡ Some q
into_is None f h q k e = absurd cc
into_is (Some p) f h q k e = k p.shape e

number_first : (b : Bool) (o : Option Shape) (q : Shape) → cond b o None ≡ Some q → o ≡ Some q
number_first true o q h = h
number_first false o q h = absurd cc

through : (g : Scope) (path : Path) (s q : Shape) → shape_along g path s ≡ Some q → shape_through path s ≡ Some q
through g Here s q h = h
through g (IntoField k path) (Record x n align fs) q h =
    into_is (member_spot fs k) (λ s. shape_along g path s) (λ s. shape_through path s) q (λ s. through g path s q) h
through g (IntoElement e path) (Row s n) q h =
    through g path s q (number_first (is_number (sort_of g e)) (shape_along g path s) q h)
through g _ _ q h = absurd cc

shape_is : (q : Shape) (s : Scalar) → sort_at q ≡ Some (Of s) → scalar_at (Some q) ≡ Some s
shape_is (WordShape t n) s h = scalar_is (WordSort n) s h
shape_is _ s h = absurd cc

part_is : (g : Scope) (t : CType) (path : Path) (s : Scalar) →
    of_shape (shape_along g path (shape_of g.layout t)) sort_at ≡ Some (Of s) → part_told g.layout t path ≡ Some s
part_is g t path s h =
    let q = shape_inv (shape_along g path (shape_of g.layout t)) sort_at (Of s) h in
    ap scalar_at (through g path (shape_of g.layout t) q.0 q.1) ∙ shape_is q.0 s q.2

-- expressions

module _ (g : Scope) where
  place_is : (b : Bool) (t : CType) (path : Path) (s : Scalar) →
      where_holds b (of_shape (shape_along g path (shape_of g.layout t)) sort_at) ≡ Some (Of s) →
      part_told g.layout t path ≡ Some s
  place_is b t path s h =
      part_is g t path s (where_inv b (of_shape (shape_along g path (shape_of g.layout t)) sort_at) (Of s) h).1

  address_is : (b : Bool) (o : Option Shape) (a s : Scalar) → where_holds b (of_shape o (λ q. Some (Of a))) ≡ Some (Of s) →
      ◌≡◌ {A = Option Scalar} (Some a) (Some s)
  address_is b o a s h =
      scalar_is a s (shape_inv o (λ q. Some (Of a)) (Of s) (where_inv b (of_shape o (λ q. Some (Of a))) (Of s) h).1).2

  global_is : (o : Option CType) (path : Path) (s : Scalar) →
      of_type o (λ t. where_holds (is_object g.layout t) (of_shape (shape_along g path (shape_of g.layout t)) sort_at))
      ≡ Some (Of s) → global_told g.layout o path ≡ Some s
  global_is None path s h = absurd cc
  global_is (Some t) path s h = place_is (is_object g.layout t) t path s h

  -- a word of the width of an operand
  second_is : (a b : Option Sort) (f : ℕ → Option Sort) (s : Scalar) →
      of_words (word_width a) (word_width b) word_sort ≡ Some (Of s) → b ≡ Some (Of s)
  second_is a b f s h =
      let p = words_inv (word_width a) (word_width b) word_sort (Of s) h in
      width_inv b p.0 p.2 ∙ p.3

  word_is : (a : Option Sort) (s : Scalar) → of_word (word_width a) word_sort ≡ Some (Of s) → a ≡ Some (Of s)
  word_is a s h = let p = word_inv (word_width a) word_sort (Of s) h in width_inv a p.0 p.1 ∙ p.2

  compared_is : (a b : Option Sort) (s : Scalar) → of_words (word_width a) (word_width b) (λ n. truth_sort) ≡ Some (Of s) →
      ◌≡◌ {A = Option Scalar} (Some TruthSort) (Some s)
  compared_is a b s h = scalar_is TruthSort s (words_inv (word_width a) (word_width b) (λ n. truth_sort) (Of s) h).3

  number_of_is : (a : Option Sort) (s : Scalar) → of_word (word_width a) (λ n. number_sort) ≡ Some (Of s) →
      ◌≡◌ {A = Option Scalar} (Some NumberSort) (Some s)
  number_of_is a s h = scalar_is NumberSort s (word_inv (word_width a) (λ n. number_sort) (Of s) h).2

  cast_is : (a : Option Sort) (test : ℕ → Bool) (width : ℕ) (s : Scalar) →
      of_word (word_width a) (λ from. where_holds (test from) (word_sort width)) ≡ Some (Of s) →
      ◌≡◌ {A = Option Scalar} (Some (WordSort width)) (Some s)
  cast_is a test width s h =
      let p = word_inv (word_width a) (λ from. where_holds (test from) (word_sort width)) (Of s) h in
      where_is (test p.0) (WordSort width) s p.2

  choice_is : (c a b : Option Sort) (s : Scalar) → where_holds (is_truth c && are_same a b) a ≡ Some (Of s) → b ≡ Some (Of s)
  choice_is c a b s h =
      let p = where_inv (is_truth c && are_same a b) a (Of s) h in
      same_is a b (and_is (is_truth c) (are_same a b) p.0) ∙ p.1
    where
      and_is : (x y : Bool) → (x && y) ≡ true → y ≡ true
      and_is true y h = h
      and_is false y h = absurd cc

      same_is : (a b : Option Sort) → are_same a b ≡ true → b ≡ a
      same_is a b h = let o = same_inv a b h in o.2 ∙ sym o.1

  pub told_is : (e : Exp) (s : Scalar) → has is_part_of_value e ≡ false → sort_of g e ≡ Some (Of s) → told g e ≡ Some s
  told_is (Var x) s n h = name_is (g.names x) s h
  told_is (WordLit w) s n h = where_is _ (WordSort w.width) s h
  told_is (NumberLit k) s n h = scalar_is NumberSort s h
  told_is (TruthLit b) s n h = scalar_is TruthSort s h
  told_is (WordBinary op a b) s n h =
      told_is b s (or_parts (has is_part_of_value a) (has is_part_of_value b) n).1
      (second_is (sort_of g a) (sort_of g b) word_sort s h)
  told_is (WordShift op a k) s n h =
      told_is a s (or_parts (has is_part_of_value a) (has is_part_of_value k) n).0
      (word_is (sort_of g a) s (where_inv (is_number (sort_of g k)) (of_word (word_width (sort_of g a)) word_sort) (Of s) h).1)
  told_is (WordUnary op a) s n h = told_is a s n (word_is (sort_of g a) s h)
  told_is (WordCompare op a b) s n h = compared_is (sort_of g a) (sort_of g b) s h
  told_is (Cast op width a) s n h = cast_is (sort_of g a) (λ from. is_width width && cast_fits op from width) width s h
  told_is (ToNat a) s n h = number_of_is (sort_of g a) s h
  told_is (ToInt a) s n h = number_of_is (sort_of g a) s h
  told_is (ToWord width a) s n h = where_is _ (WordSort width) s h
  told_is (Arith op a b) s n h = where_is _ NumberSort s h
  told_is (Negate a) s n h = where_is _ NumberSort s h
  told_is (Lt a b) s n h = where_is _ TruthSort s h
  told_is (Le a b) s n h = where_is _ TruthSort s h
  told_is (Between low a high) s n h = where_is _ TruthSort s h
  told_is (Eq a b) s n h = where_is _ TruthSort s h
  told_is (And a b) s n h = where_is _ TruthSort s h
  told_is (Or a b) s n h = where_is _ TruthSort s h
  told_is (Imp a b) s n h = where_is _ TruthSort s h
  told_is (Not a) s n h = where_is _ TruthSort s h
  told_is (If c a b) s n h =
      told_is b s (or_parts (has is_part_of_value c || has is_part_of_value a) (has is_part_of_value b) n).1
      (choice_is (sort_of g c) (sort_of g a) (sort_of g b) s h)
  told_is (Padd t p k) s n h = where_is _ (WordSort (address_width g.layout.target)) s h
  told_is (At t p path) s n h =
      address_is _ (shape_along g path (shape_of g.layout t)) (WordSort (address_width g.layout.target)) s h
  told_is (Load t p path) s n h = place_is _ t path s h
  told_is (Read t p path) s n h = place_is _ t path s h
  told_is (Tagged t p) s n h = where_is _ TruthSort s h
  told_is (PtrOk t p) s n h = where_is _ TruthSort s h
  told_is (Global x path) s n h = global_is (g.globals x) path s h
  told_is _ s n h = absurd cc

  -- the same of an expression of a program
  scalar_told : (b : Bool) (e : Exp) (s : Scalar) → has is_part_of_value e ≡ b → scalar_in (cond b None (sort_of g e)) ≡ Some s →
      told g e ≡ Some s
  scalar_told true e s n h = absurd cc
  scalar_told false e s n h = told_is e s n (in_is (sort_of g e) h)
    where
      in_is : (o : Option Sort) → scalar_in o ≡ Some s → o ≡ Some (Of s)
      in_is (Some (Of a)) h = let e : a ≡ s = cc in ap (λ b. Some (Of b)) e
      in_is _ h = absurd cc

  pub program_told : (e : Exp) (s : Scalar) → scalar_in (program_sort g e) ≡ Some s → told g e ≡ Some s
  program_told e s h = scalar_told (has is_part_of_value e) e s refl h

  both_is : (o : Option Scalar) (p : Option (List Scalar)) (ss : List Scalar) → with_scalar o p ≡ Some ss →
      (s : Scalar) × (rest : List Scalar) × (o ≡ Some s) × (p ≡ Some rest) × (s ∷ rest ≡ ss)
  both_is (Some s) (Some rest) ss h = let e : s ∷ rest ≡ ss = cc in (s, rest, refl, refl, e)
  both_is None (Some rest) ss h = absurd cc
  both_is _ _ ss h = absurd cc

  pub exps_told : (es : List Exp) (ss : List Scalar) → scalars_of g es ≡ Some ss → all_told g es ≡ somes ss
  exps_told [] ss h = let e : [] ≡ ss = cc in ap somes e
  exps_told (e ∷ es) ss h =
      let p = both_is (scalar_in (program_sort g e)) (scalars_of g es) ss h in
      ap₂ (λ o os. o ∷ os) (program_told e p.0 p.2) (exps_told es p.1 p.3) ∙ ap somes p.4

  pub starts_are : (xs : List Start) (ss : List Scalar) → start_scalars g xs ≡ Some ss → starts_told g xs ≡ somes ss
  starts_are [] ss h = let e : [] ≡ ss = cc in ap somes e
  starts_are (x ∷ xs) ss h =
      let p = both_is (scalar_in (program_sort g x.exp)) (start_scalars g xs) ss h in
      ap₂ (λ o os. o ∷ os) (program_told x.exp p.0 p.2) (starts_are xs p.1 p.3) ∙ ap somes p.4
