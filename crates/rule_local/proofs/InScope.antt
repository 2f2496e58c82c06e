-- The names of a well-sorted command are in scope.
use Rattle.std.proofs.Common.{◌≡◌, ℕ, Bool, true, false, not, cond, ◌&&◌, ◌||◌, List, [], ◌∷◌, map, Option, Some, None, ◌⊎◌, inl, inr, refl, sym, subst, ap}
use Rattle.std.specs.Option.{is_some}
use Rattle.std.proofs.lemmas.Bool.{false≢true, and_parts, or_left, or_right}
use Rattle.c_values.specs.Name.{Name, same_name, with_name, is_among}
use Rattle.c_values.specs.Types.{CType, address_width}
use Rattle.c_values.specs.Layout.{Shape, Record, Row, is_object, shape_of}
use Rattle.c_values.specs.Path.{Spot, member_spot}
use Rattle.c_values.proofs.Laid.{name_is, same_name-refl}
use Rattle.expression_lang.specs.Expression.{Exp, Var, WordBinary, WordShift, WordUnary, WordCompare, Cast, ToNat, ToInt, ToWord, Arith, Negate, Lt, Le, Between, Eq, And, Or, Imp, Not, If, Padd, At, Load, Read, Tagged, PtrOk, Global, Sel, Upd, Path, Here, IntoField, IntoElement}
use Rattle.expression_lang.specs.Mentions.{names}
use Rattle.expression_lang.specs.Form.{has, path_has, is_part_of_value}
use Rattle.expression_lang.specs.Sort.{Scalar, Sort, Of, Kind, Scope, word_width, is_word_of, is_number, is_truth, truth_sort, number_sort, word_sort, where_holds, of_words, of_word, are_same, of_shape, shape_in, of_type, parts_shape, scalar_sort, sort_at, sort_of, shape_along, word_sort_of, cast_fits, is_width, is_unary, is_one_step}
use Rattle.expression_lang.specs.Signature.{Binder, Signature, names_of, kinds_of, signature}
use Rattle.expression_lang.specs.Sorted.{names_with, program_sort, scalar_in, with_scalar, scalars_of, sort_in, part_place, typed_place, global_place, fits_place, call_scalars}
use Rattle.simpl_lang.specs.Command.{Condition, Simpl, Set, SetGlobal, Store, Pick, Seq, Cond, Guard, Catch, While, Call, SimplFn, SimplUnit}
use Rattle.simpl_lang.specs.Names.{path_names, some_names, conditions_name, is_target, command_names}
use Rattle.program_sorts.specs.Sorts.{is_scalar_of}
use Rattle.simpl_lang.specs.Sorted.{is_sorted, is_local, are_conditions, fits_target, scope_of}
use Rattle.rule_local.proofs.LiftedNames.{either}

-- parts of what has a sort

words_some : (w w' : Option ℕ) (f : ℕ → Option Sort) → is_some (of_words w w' f) ≡ true → (is_some w ≡ true) × (is_some w' ≡ true)
words_some (Some m) (Some n) f h = (refl, refl)
words_some _ _ _ h = absurd (false≢true h)

word_some : (w : Option ℕ) (f : ℕ → Option Sort) → is_some (of_word w f) ≡ true → is_some w ≡ true
word_some (Some n) f h = refl
word_some None f h = absurd (false≢true h)

width_some : (o : Option Sort) → is_some (word_width o) ≡ true → is_some o ≡ true
width_some (Some s) h = refl
width_some None h = absurd (false≢true h)

where_some : (b : Bool) (o : Option Sort) → is_some (where_holds b o) ≡ true → (b ≡ true) × (is_some o ≡ true)
where_some true o h = (refl, h)
where_some false o h = absurd (false≢true h)

number_some : (o : Option Sort) → is_number o ≡ true → is_some o ≡ true
number_some (Some s) h = refl
number_some None h = absurd (false≢true h)

truth_some : (o : Option Sort) → is_truth o ≡ true → is_some o ≡ true
truth_some (Some s) h = refl
truth_some None h = absurd (false≢true h)

word_of_some : (n : ℕ) (o : Option Sort) → is_word_of n o ≡ true → is_some o ≡ true
word_of_some n (Some s) h = refl
word_of_some n None h = absurd (false≢true h)

same_some : (o p : Option Sort) → are_same o p ≡ true → (is_some o ≡ true) × (is_some p ≡ true)
same_some (Some s) (Some t) h = (refl, refl)
same_some _ _ h = absurd (false≢true h)

shape_some : (o : Option Shape) (f : Shape → Option Sort) → is_some (of_shape o f) ≡ true → (s : Shape) × (o ≡ Some s) × (is_some (f s) ≡ true)
shape_some (Some s) f h = (s, refl, h)
shape_some None f h = absurd (false≢true h)

type_some : (o : Option CType) (f : CType → Option Sort) → is_some (of_type o f) ≡ true → (t : CType) × (is_some (f t) ≡ true)
type_some (Some t) f h = (t, h)
type_some None f h = absurd (false≢true h)

some_of : {A : Type 0} (o : Option A) (a : A) → o ≡ Some a → is_some o ≡ true
some_of o a h = ap (λ p. is_some p) h

scalar_some : (o : Option Scalar) → is_some (scalar_sort o) ≡ true → is_some o ≡ true
scalar_some (Some s) h = refl
scalar_some None h = absurd (false≢true h)

module _ (g : Scope) (y : Name) where
  abbrev InScope : Type 0
  InScope = is_some (g.names y) ≡ true

  parts_some : (o : Option Sort) (s : Shape) → parts_shape g.layout o ≡ Some s → is_some o ≡ true
  parts_some (Some t) s h = refl
  parts_some None s h = absurd cc

  var_in_scope : (x : Name) → is_some (g.names x) ≡ true → same_name y x ≡ true → InScope
  var_in_scope x h e = subst (λ z. is_some (g.names z) ≡ true) (sym (name_is y x e)) h

  -- an operand that is a word
  width_of : (e : Exp) → is_some (word_width (sort_of g e)) ≡ true → is_some (sort_of g e) ≡ true
  width_of e h = width_some (sort_of g e) h

  both : (a b : Exp) → (is_some (sort_of g a) ≡ true) × (is_some (sort_of g b) ≡ true) → (is_some (sort_of g a) ≡ true → names y a ≡ true → InScope) →
      (is_some (sort_of g b) ≡ true → names y b ≡ true → InScope) → (names y a || names y b) ≡ true → InScope
  both a b s j k n = either (names y a) (names y b) n (j s.0) (k s.1)

  words : (a b : Exp) (f : ℕ → Option Sort) → is_some (of_words (word_width (sort_of g a)) (word_width (sort_of g b)) f) ≡ true → (is_some (sort_of g a) ≡ true) × (is_some (sort_of g b) ≡ true)
  words a b f h = let p = words_some (word_width (sort_of g a)) (word_width (sort_of g b)) f h in (width_of a p.0, width_of b p.1)

  numbers : (a b : Exp) (o : Option Sort) → is_some (where_holds (is_number (sort_of g a) && is_number (sort_of g b)) o) ≡ true → (is_some (sort_of g a) ≡ true) × (is_some (sort_of g b) ≡ true)
  numbers a b o h =
      let p = and_parts (is_number (sort_of g a)) (is_number (sort_of g b)) (where_some (is_number (sort_of g a) && is_number (sort_of g b)) o h).0 in (number_some (sort_of g a) p.0, number_some (sort_of g b) p.1)

  truths : (a b : Exp) (o : Option Sort) → is_some (where_holds (is_truth (sort_of g a) && is_truth (sort_of g b)) o) ≡ true → (is_some (sort_of g a) ≡ true) × (is_some (sort_of g b) ≡ true)
  truths a b o h =
      let p = and_parts (is_truth (sort_of g a)) (is_truth (sort_of g b)) (where_some (is_truth (sort_of g a) && is_truth (sort_of g b)) o h).0 in (truth_some (sort_of g a) p.0, truth_some (sort_of g b) p.1)

  -- a pointer to an object
  pointer : (t : CType) (p : Exp) (o : Option Sort) → is_some (where_holds (is_object g.layout t && is_word_of (address_width g.layout.target) (sort_of g p)) o) ≡ true → (is_some (sort_of g p) ≡ true) × (is_some o ≡ true)
  pointer t p o h =
      let w = where_some (is_object g.layout t && is_word_of (address_width g.layout.target) (sort_of g p)) o h in
      (word_of_some (address_width g.layout.target) (sort_of g p) (and_parts (is_object g.layout t) (is_word_of (address_width g.layout.target) (sort_of g p)) w.0).1, w.1)

  -- a path from a root
  along : (path : Path) (s : Shape) (f : Shape → Option Sort) → is_some (of_shape (shape_along g path s) f) ≡ true → is_some (shape_along g path s) ≡ true
  along path s f h = let p = shape_some (shape_along g path s) f h in some_of (shape_along g path s) p.0 p.1

  member_some : (o : Option Spot) (path : Path) → is_some (shape_in o (λ s. shape_along g path s)) ≡ true → (s : Shape) × (is_some (shape_along g path s) ≡ true)
  member_some (Some q) path h = (q.shape, h)
  member_some None path h = absurd (false≢true h)

  element_some : (b : Bool) (o : Option Shape) → is_some (cond b o None) ≡ true → (b ≡ true) × (is_some o ≡ true)
  element_some true o h = (refl, h)
  element_some false o h = absurd (false≢true h)

  mutual
    pub exp_in_scope : (e : Exp) → is_some (sort_of g e) ≡ true → names y e ≡ true → InScope
    exp_in_scope (Var x) h n = var_in_scope x (scalar_some (g.names x) h) n
    exp_in_scope (WordBinary op a b) h n = both a b (words a b word_sort h) (exp_in_scope a) (exp_in_scope b) n
    exp_in_scope (WordShift op a k) h n =
        let w = where_some (is_number (sort_of g k)) (of_word (word_width (sort_of g a)) word_sort) h in
        both a k (width_of a (word_some (word_width (sort_of g a)) word_sort w.1), number_some (sort_of g k) w.0) (exp_in_scope a) (exp_in_scope k) n
    exp_in_scope (WordUnary op a) h n = exp_in_scope a (width_of a (word_some (word_width (sort_of g a)) word_sort h)) n
    exp_in_scope (WordCompare op a b) h n = both a b (words a b (λ k. truth_sort) h) (exp_in_scope a) (exp_in_scope b) n
    exp_in_scope (Cast op width a) h n = exp_in_scope a (width_of a (word_some (word_width (sort_of g a)) (λ from. where_holds (is_width width && cast_fits op from width) (word_sort width)) h)) n
    exp_in_scope (ToNat a) h n = exp_in_scope a (width_of a (word_some (word_width (sort_of g a)) (λ k. number_sort) h)) n
    exp_in_scope (ToInt a) h n = exp_in_scope a (width_of a (word_some (word_width (sort_of g a)) (λ k. number_sort) h)) n
    exp_in_scope (ToWord width a) h n =
        exp_in_scope a (number_some (sort_of g a) (and_parts (is_width width) (is_number (sort_of g a)) (where_some (is_width width && is_number (sort_of g a)) (word_sort width) h).0).1) n
    exp_in_scope (Arith op a b) h n =
        let p = and_parts (not (is_unary op) && is_number (sort_of g a)) (is_number (sort_of g b)) (where_some (not (is_unary op) && is_number (sort_of g a) && is_number (sort_of g b)) number_sort h).0 in
        both a b (number_some (sort_of g a) (and_parts (not (is_unary op)) (is_number (sort_of g a)) p.0).1, number_some (sort_of g b) p.1) (exp_in_scope a) (exp_in_scope b) n
    exp_in_scope (Negate a) h n = exp_in_scope a (number_some (sort_of g a) (where_some (is_number (sort_of g a)) number_sort h).0) n
    exp_in_scope (Lt a b) h n = both a b (numbers a b truth_sort h) (exp_in_scope a) (exp_in_scope b) n
    exp_in_scope (Le a b) h n = both a b (numbers a b truth_sort h) (exp_in_scope a) (exp_in_scope b) n
    exp_in_scope (Between low a high) h n = exp_in_scope a (number_some (sort_of g a) (where_some (is_number (sort_of g a)) truth_sort h).0) n
    exp_in_scope (Eq a b) h n = both a b (same_some (sort_of g a) (sort_of g b) (where_some (are_same (sort_of g a) (sort_of g b)) truth_sort h).0) (exp_in_scope a) (exp_in_scope b) n
    exp_in_scope (And a b) h n = both a b (truths a b truth_sort h) (exp_in_scope a) (exp_in_scope b) n
    exp_in_scope (Or a b) h n = both a b (truths a b truth_sort h) (exp_in_scope a) (exp_in_scope b) n
    exp_in_scope (Imp a b) h n = both a b (truths a b truth_sort h) (exp_in_scope a) (exp_in_scope b) n
    exp_in_scope (Not a) h n = exp_in_scope a (truth_some (sort_of g a) (where_some (is_truth (sort_of g a)) truth_sort h).0) n
    exp_in_scope (If c a b) h n =
        let p = and_parts (is_truth (sort_of g c)) (are_same (sort_of g a) (sort_of g b)) (where_some (is_truth (sort_of g c) && are_same (sort_of g a) (sort_of g b)) (sort_of g a) h).0 in
        let q = same_some (sort_of g a) (sort_of g b) p.1 in
        either (names y c || names y a) (names y b) n (λ k. both c a (truth_some (sort_of g c) p.0, q.0) (exp_in_scope c) (exp_in_scope a) k) (exp_in_scope b q.1)
    exp_in_scope (Padd t p k) h n =
        let w = where_some (is_object g.layout t && is_word_of (address_width g.layout.target) (sort_of g p) && is_number (sort_of g k)) (word_sort (address_width g.layout.target)) h in
        let q = and_parts (is_object g.layout t && is_word_of (address_width g.layout.target) (sort_of g p)) (is_number (sort_of g k)) w.0 in
        both p k (word_of_some (address_width g.layout.target) (sort_of g p) (and_parts (is_object g.layout t) (is_word_of (address_width g.layout.target) (sort_of g p)) q.0).1, number_some (sort_of g k) q.1)
        (exp_in_scope p) (exp_in_scope k) n
    exp_in_scope (At t p path) h n =
        let q = pointer t p (of_shape (shape_along g path (shape_of g.layout t)) (λ s. word_sort (address_width g.layout.target))) h in
        either (names y p) (path_names y path) n (exp_in_scope p q.0) (path_in_scope path (shape_of g.layout t) (along path (shape_of g.layout t) (λ s. word_sort (address_width g.layout.target)) q.1))
    exp_in_scope (Load t p path) h n =
        let q = pointer t p (of_shape (shape_along g path (shape_of g.layout t)) sort_at) h in
        either (names y p) (path_names y path) n (exp_in_scope p q.0) (path_in_scope path (shape_of g.layout t) (along path (shape_of g.layout t) sort_at q.1))
    exp_in_scope (Read t p path) h n =
        let q = pointer t p (of_shape (shape_along g path (shape_of g.layout t)) sort_at) h in
        either (names y p) (path_names y path) n (exp_in_scope p q.0) (path_in_scope path (shape_of g.layout t) (along path (shape_of g.layout t) sort_at q.1))
    exp_in_scope (Tagged t p) h n = exp_in_scope p (pointer t p truth_sort h).0 n
    exp_in_scope (PtrOk t p) h n = exp_in_scope p (pointer t p truth_sort h).0 n
    exp_in_scope (Global x path) h n =
        let q = type_some (g.globals x) (λ t. where_holds (is_object g.layout t) (of_shape (shape_along g path (shape_of g.layout t)) sort_at)) h in
        path_in_scope path (shape_of g.layout q.0)
        (along path (shape_of g.layout q.0) sort_at (where_some (is_object g.layout q.0) (of_shape (shape_along g path (shape_of g.layout q.0)) sort_at) q.1).1) n
    exp_in_scope (Sel e path) h n =
        let w = where_some (is_one_step path) (of_shape (parts_shape g.layout (sort_of g e)) (λ s. of_shape (shape_along g path s) sort_at)) h in
        let q = shape_some (parts_shape g.layout (sort_of g e)) (λ s. of_shape (shape_along g path s) sort_at) w.1 in
        either (names y e) (path_names y path) n (exp_in_scope e (parts_some (sort_of g e) q.0 q.1)) (path_in_scope path q.0 (along path q.0 sort_at q.2))
    exp_in_scope (Upd e path v) h n =
        let q = shape_some (parts_shape g.layout (sort_of g e)) (λ s. of_shape (shape_along g path s) (λ r. where_holds (are_same (sort_at r) (sort_of g v)) (sort_of g e))) h in
        let r = shape_some (shape_along g path q.0) (λ r. where_holds (are_same (sort_at r) (sort_of g v)) (sort_of g e)) q.2 in
        either (names y e || path_names y path) (names y v) n
        (λ k. either (names y e) (path_names y path) k (exp_in_scope e (parts_some (sort_of g e) q.0 q.1)) (path_in_scope path q.0 (some_of (shape_along g path q.0) r.0 r.1)))
        (exp_in_scope v (same_some (sort_at r.0) (sort_of g v) (where_some (are_same (sort_at r.0) (sort_of g v)) (sort_of g e) r.2).0).1)
    exp_in_scope _ _ n = absurd (false≢true n)

    pub path_in_scope : (path : Path) (s : Shape) → is_some (shape_along g path s) ≡ true → path_names y path ≡ true → InScope
    path_in_scope Here s h n = absurd (false≢true n)
    path_in_scope (IntoField k path) (Record x m align fs) h n = let q = member_some (member_spot fs k) path h in path_in_scope path q.0 q.1 n
    path_in_scope (IntoElement e path) (Row s m) h n =
        let q = element_some (is_number (sort_of g e)) (shape_along g path s) h in either (names y e) (path_names y path) n (exp_in_scope e (number_some (sort_of g e) q.0)) (path_in_scope path s q.1)
    path_in_scope _ _ h _ = absurd (false≢true h)

  program_some : (e : Exp) → is_some (program_sort g e) ≡ true → is_some (sort_of g e) ≡ true
  program_some e h = of (has is_part_of_value e) h
    where
      of : (b : Bool) → is_some (cond b None (sort_of g e)) ≡ true → is_some (sort_of g e) ≡ true
      of true k = absurd (false≢true k)
      of false k = k

  -- an expression of a program
  program_in_scope : (e : Exp) → is_some (program_sort g e) ≡ true → names y e ≡ true → InScope
  program_in_scope e h = exp_in_scope e (program_some e h)

  truth_in_scope : (e : Exp) → is_truth (program_sort g e) ≡ true → names y e ≡ true → InScope
  truth_in_scope e h = program_in_scope e (truth_some (program_sort g e) h)

  scalar_fits : (o : Option Scalar) (p : Option Sort) → is_scalar_of o p ≡ true → (is_some o ≡ true) × (is_some p ≡ true)
  scalar_fits (Some s) (Some t) h = (refl, refl)
  scalar_fits _ _ h = absurd (false≢true h)

  place_fits : (o p : Option Sort) → fits_place o p ≡ true → (is_some o ≡ true) × (is_some p ≡ true)
  place_fits (Some s) (Some t) h = (refl, refl)
  place_fits _ _ h = absurd (false≢true h)

  sort_in_some : (o : Option Shape) → is_some (sort_in o) ≡ true → is_some o ≡ true
  sort_in_some (Some s) h = refl
  sort_in_some None h = absurd (false≢true h)

  part_in_scope : (t : CType) (path : Path) → is_some (part_place g t path) ≡ true → path_names y path ≡ true → InScope
  part_in_scope t path h = path_in_scope path (shape_of g.layout t) (sort_in_some (shape_along g path (shape_of g.layout t)) (of (path_has is_part_of_value path) h))
    where
      of : (b : Bool) → is_some (cond b None (sort_in (shape_along g path (shape_of g.layout t)))) ≡ true → is_some (sort_in (shape_along g path (shape_of g.layout t))) ≡ true
      of true k = absurd (false≢true k)
      of false k = k

  cond_some : {A : Type 0} (b : Bool) (o : Option A) → is_some (cond b o None) ≡ true → (b ≡ true) × (is_some o ≡ true)
  cond_some true o h = (refl, h)
  cond_some false o h = absurd (false≢true h)

  global_in_scope : (o : Option CType) (path : Path) → is_some (global_place g o path) ≡ true → path_names y path ≡ true → InScope
  global_in_scope (Some t) path h = part_in_scope t path (cond_some (is_object g.layout t) (part_place g t path) h).1
  global_in_scope None path h = absurd (false≢true h)

  scalar_in_some : (o : Option Sort) → is_some (scalar_in o) ≡ true → is_some o ≡ true
  scalar_in_some (Some s) h = refl
  scalar_in_some None h = absurd (false≢true h)

  with_scalar_some : (o : Option Scalar) (r : Option (List Scalar)) → is_some (with_scalar o r) ≡ true → (is_some o ≡ true) × (is_some r ≡ true)
  with_scalar_some (Some s) (Some ss) h = (refl, refl)
  with_scalar_some _ _ h = absurd (false≢true h)

  all_in_scope : (es : List Exp) → is_some (scalars_of g es) ≡ true → some_names y es ≡ true → InScope
  all_in_scope [] h n = absurd (false≢true n)
  all_in_scope (e ∷ es) h n =
      let p = with_scalar_some (scalar_in (program_sort g e)) (scalars_of g es) h in
      either (names y e) (some_names y es) n (program_in_scope e (scalar_in_some (program_sort g e) p.0)) (all_in_scope es p.1)

  call_some : (f : Kind → Scalar) (s : Option Signature) (o : Option (List Scalar)) → is_some (call_scalars f s o) ≡ true → is_some o ≡ true
  call_some f (Some s) (Some ss) h = refl
  call_some _ _ _ h = absurd (false≢true h)

  target_fits : (x : Option Name) (o : Option (List Scalar)) → fits_target g x o ≡ true → (is_some o ≡ true) × (is_target y x ≡ true → InScope)
  target_fits None (Some []) h = (refl, λ n. absurd (false≢true n))
  target_fits (Some x) (Some (s ∷ [])) h = (refl, var_in_scope x (scalar_fits (g.names x) (Some (Of s)) h).0)
  target_fits (Some x) (Some (s ∷ t ∷ ss)) h = absurd (false≢true h)
  target_fits _ _ h = absurd (false≢true h)

  conditions_in_scope : (cs : List Condition) → are_conditions g cs ≡ true → conditions_name y cs ≡ true → InScope
  conditions_in_scope [] h n = absurd (false≢true n)
  conditions_in_scope (c ∷ cs) h n =
      let p = and_parts (is_truth (program_sort g c.exp)) (are_conditions g cs) h in either (names y c.exp) (conditions_name y cs) n (truth_in_scope c.exp p.0) (conditions_in_scope cs p.1)

  pub command_in_scope : (sigs : List Signature) (a : Simpl) → is_sorted g sigs a ≡ true → command_names y a ≡ true → InScope
  command_in_scope ss (Set x e) h n =
      let p = scalar_fits (g.names x) (program_sort g e) h in either (same_name y x) (names y e) n (var_in_scope x p.0) (program_in_scope e p.1)
  command_in_scope ss (SetGlobal x path e) h n =
      let p = place_fits (global_place g (g.globals x) path) (program_sort g e) h in either (path_names y path) (names y e) n (global_in_scope (g.globals x) path p.0) (program_in_scope e p.1)
  command_in_scope ss (Store t a path e) h n =
      let p = place_fits (typed_place g t a path) (program_sort g e) h in
      let q = cond_some (is_object g.layout t && is_word_of (address_width g.layout.target) (program_sort g a)) (part_place g t path) p.0 in
      either (names y a || path_names y path) (names y e) n
      (λ k. either (names y a) (path_names y path) k
      (program_in_scope a (word_of_some (address_width g.layout.target) (program_sort g a) (and_parts (is_object g.layout t) (is_word_of (address_width g.layout.target) (program_sort g a)) q.0).1))
      (part_in_scope t path q.1)) (program_in_scope e p.1)
  command_in_scope ss (Pick x) h n = var_in_scope x (local_some (g.names x) h) n
    where
      local_some : (o : Option Scalar) → is_local o ≡ true → is_some o ≡ true
      local_some (Some s) k = refl
      local_some None k = absurd (false≢true k)
  command_in_scope ss (Seq a b) h n =
      let p = and_parts (is_sorted g ss a) (is_sorted g ss b) h in either (command_names y a) (command_names y b) n (command_in_scope ss a p.0) (command_in_scope ss b p.1)
  command_in_scope ss (Cond e a b) h n =
      let p = and_parts (is_truth (program_sort g e) && is_sorted g ss a) (is_sorted g ss b) h in
      let q = and_parts (is_truth (program_sort g e)) (is_sorted g ss a) p.0 in
      either (names y e || command_names y a) (command_names y b) n (λ k. either (names y e) (command_names y a) k (truth_in_scope e q.0) (command_in_scope ss a q.1)) (command_in_scope ss b p.1)
  command_in_scope ss (Guard c a) h n =
      let p = and_parts (is_truth (program_sort g c.exp)) (is_sorted g ss a) h in either (names y c.exp) (command_names y a) n (truth_in_scope c.exp p.0) (command_in_scope ss a p.1)
  command_in_scope ss (Catch a b) h n =
      let p = and_parts (is_sorted g ss a) (is_sorted g ss b) h in either (command_names y a) (command_names y b) n (command_in_scope ss a p.0) (command_in_scope ss b p.1)
  command_in_scope ss (While cs e a) h n =
      let p = and_parts (are_conditions g cs && is_truth (program_sort g e)) (is_sorted g ss a) h in
      let q = and_parts (are_conditions g cs) (is_truth (program_sort g e)) p.0 in
      either (conditions_name y cs || names y e) (command_names y a) n (λ k. either (conditions_name y cs) (names y e) k (conditions_in_scope cs q.0) (truth_in_scope e q.1)) (command_in_scope ss a p.1)
  command_in_scope ss (Call x f es) h n =
      let p = target_fits x (call_scalars word_sort_of (signature ss f) (scalars_of g es)) h in
      either (is_target y x) (some_names y es) n p.1 (all_in_scope es (call_some word_sort_of (signature ss f) (scalars_of g es) p.0))
  command_in_scope _ _ _ n = absurd (false≢true n)

-- what is in a function's scope is a local
pub local_in_scope : (y : Name) (bs : List Binder) (names : Name → Option Scalar) → is_some (names_with (names_of bs) (map word_sort_of (kinds_of bs)) names y) ≡ true →
    (is_some (names y) ≡ true) ⊎ (is_among y (names_of bs) ≡ true)
local_in_scope y [] names h = inl h
local_in_scope y (b ∷ bs) names h = further (local_in_scope y bs (with_name b.name (Some (word_sort_of b.kind)) names) h)
  where
    first : (t : Bool) → same_name b.name y ≡ t → is_some (cond t (Some (word_sort_of b.kind)) (names y)) ≡ true → (is_some (names y) ≡ true) ⊎ (is_among y (names_of (b ∷ bs)) ≡ true)
    first true e k = inr (or_left (same_name y b.name) (is_among y (names_of bs)) (swapped e))
      where
        swapped : same_name b.name y ≡ true → same_name y b.name ≡ true
        swapped e = subst (λ z. same_name z b.name ≡ true) (name_is b.name y e) (same_name-refl b.name)
    first false e k = inl k

    further : (is_some (with_name b.name (Some (word_sort_of b.kind)) names y) ≡ true) ⊎ (is_among y (names_of bs) ≡ true) → (is_some (names y) ≡ true) ⊎ (is_among y (names_of (b ∷ bs)) ≡ true)
    further (inl k) = first (same_name b.name y) refl k
    further (inr k) = inr (or_right (same_name y b.name) (is_among y (names_of bs)) k)

pub sorted_names_locals : (u : SimplUnit) (f : SimplFn) (y : Name) → is_sorted (scope_of u f) u.signatures f.body ≡ true → command_names y f.body ≡ true → is_among y (names_of f.locals) ≡ true
sorted_names_locals u f y h n = of (local_in_scope y f.locals (λ x. None) (command_in_scope (scope_of u f) y u.signatures f.body h n))
  where
    of : (is_some ((λ (x : Name). let o : Option Scalar = None in o) y) ≡ true) ⊎ (is_among y (names_of f.locals) ≡ true) → is_among y (names_of f.locals) ≡ true
    of (inl k) = absurd (false≢true k)
    of (inr k) = k
