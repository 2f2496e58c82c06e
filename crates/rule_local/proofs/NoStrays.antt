-- No part of a program's expressions is stray exactly where the free names of the program are parameters.
use Rattle.std.proofs.Common.{◌≡◌, ◌↔◌, Bool, true, false, not, ◌&&◌, ◌||◌, List, [], ◌∷◌, refl, sym, subst, ap, ◌∙◌}
use Rattle.std.proofs.lemmas.Bool.{false≢true, not-true, false_from_ne_true, and_parts, and_from, or_left, or_right}
use Rattle.c_values.specs.Name.{Name, is_among}
use Rattle.c_values.proofs.Laid.{name_is}
use Rattle.expression_lang.specs.Expression.{Exp, Var, WordLit, NumberLit, TruthLit, WordBinary, WordShift, WordUnary, WordCompare, Cast, ToNat, ToInt, ToWord, Arith, Negate, Lt, Le, Between, Eq, And, Or, Imp, Not, If, Padd, At, Load, Read, Tagged, PtrOk, Global, Sel, Upd, Path, Here, IntoField, IntoElement}
use Rattle.expression_lang.specs.Form.{has, path_has}
use Rattle.expression_lang.specs.Mentions.{is_name, names}
use Rattle.monad_lang.specs.Program as M
use Rattle.monad_lang.specs.Program.{Mon}
use Rattle.monad_lang.specs.Run.{start_names}
use Rattle.monad_lang.specs.Form.{some_has, start_has, place_has, program_has, no_place}
use Rattle.monad_lang.specs.Names.{is_in_some, is_in_start, is_in_place, is_free}
use Rattle.rule_local.specs.Table.{AllFreeAmong}
use Rattle.rule_local.specs.CodeFree.{is_stray, is_unknown}
use Rattle.rule_local.proofs.Lost.{either_there}

-- a part that passes, which is there for every test that it passes
record Part (test : Exp → Bool) (there : (Exp → Bool) → Bool) : Type 0 where
  part : Exp
  passes : test part ≡ true
  is_there : (other : Exp → Bool) → other part ≡ true → there other ≡ true

module _ (test : Exp → Bool) where
  itself : (e : Exp) → test e ≡ true → Part test (λ t. t e)
  itself e h = record { part = e; passes = h; is_there = λ t k. k }

  either : (f g : (Exp → Bool) → Bool) → (f test ≡ true → Part test f) → (g test ≡ true → Part test g) → (f test || g test) ≡ true → Part test (λ t. f t || g t)
  either f g h k e = by_first (f test) refl
    where
      by_first : (b : Bool) → f test ≡ b → Part test (λ t. f t || g t)
      by_first true i = let p = h i in record { part = p.part; passes = p.passes; is_there = λ t j. or_left (f t) (g t) (p.is_there t j) }
      by_first false i =
          let p = k (subst (λ b. (b || g test) ≡ true) i e) in record { part = p.part; passes = p.passes; is_there = λ t j. or_right (f t) (g t) (p.is_there t j) }

  one : (e : Exp) (f : (Exp → Bool) → Bool) → (f test ≡ true → Part test f) → (test e || f test) ≡ true → Part test (λ t. t e || f t)
  one e f h k = either (λ t. t e) f (itself e) h k

  two : (e : Exp) (f g : (Exp → Bool) → Bool) → (f test ≡ true → Part test f) → (g test ≡ true → Part test g) → (test e || f test || g test) ≡ true → Part test (λ t. t e || f t || g t)
  two e f g h j k = either (λ t. t e || f t) g (one e f h) j k

  three : (e : Exp) (f g i : (Exp → Bool) → Bool) → (f test ≡ true → Part test f) → (g test ≡ true → Part test g) → (i test ≡ true → Part test i) → (test e || f test || g test || i test) ≡ true →
      Part test (λ t. t e || f t || g t || i t)
  three e f g i h j l k = either (λ t. t e || f t || g t) i (two e f g h j) l k

  mutual
    part_of : (e : Exp) → has test e ≡ true → Part test (λ t. has t e)
    part_of (Var x) h = itself (Var x) h
    part_of (WordLit w) h = itself (WordLit w) h
    part_of (NumberLit n) h = itself (NumberLit n) h
    part_of (TruthLit b) h = itself (TruthLit b) h
    part_of (WordBinary op a b) h = two (WordBinary op a b) (λ t. has t a) (λ t. has t b) (part_of a) (part_of b) h
    part_of (WordShift op a n) h = two (WordShift op a n) (λ t. has t a) (λ t. has t n) (part_of a) (part_of n) h
    part_of (WordUnary op a) h = one (WordUnary op a) (λ t. has t a) (part_of a) h
    part_of (WordCompare op a b) h = two (WordCompare op a b) (λ t. has t a) (λ t. has t b) (part_of a) (part_of b) h
    part_of (Cast op width a) h = one (Cast op width a) (λ t. has t a) (part_of a) h
    part_of (ToNat a) h = one (ToNat a) (λ t. has t a) (part_of a) h
    part_of (ToInt a) h = one (ToInt a) (λ t. has t a) (part_of a) h
    part_of (ToWord width a) h = one (ToWord width a) (λ t. has t a) (part_of a) h
    part_of (Arith op a b) h = two (Arith op a b) (λ t. has t a) (λ t. has t b) (part_of a) (part_of b) h
    part_of (Negate a) h = one (Negate a) (λ t. has t a) (part_of a) h
    part_of (Lt a b) h = two (Lt a b) (λ t. has t a) (λ t. has t b) (part_of a) (part_of b) h
    part_of (Le a b) h = two (Le a b) (λ t. has t a) (λ t. has t b) (part_of a) (part_of b) h
    part_of (Between low a high) h = one (Between low a high) (λ t. has t a) (part_of a) h
    part_of (Eq a b) h = two (Eq a b) (λ t. has t a) (λ t. has t b) (part_of a) (part_of b) h
    part_of (And a b) h = two (And a b) (λ t. has t a) (λ t. has t b) (part_of a) (part_of b) h
    part_of (Or a b) h = two (Or a b) (λ t. has t a) (λ t. has t b) (part_of a) (part_of b) h
    part_of (Imp a b) h = two (Imp a b) (λ t. has t a) (λ t. has t b) (part_of a) (part_of b) h
    part_of (Not a) h = one (Not a) (λ t. has t a) (part_of a) h
    part_of (If c a b) h = three (If c a b) (λ t. has t c) (λ t. has t a) (λ t. has t b) (part_of c) (part_of a) (part_of b) h
    part_of (Padd u p n) h = two (Padd u p n) (λ t. has t p) (λ t. has t n) (part_of p) (part_of n) h
    part_of (At u p path) h = two (At u p path) (λ t. has t p) (λ t. path_has t path) (part_of p) (part_of_path path) h
    part_of (Load u p path) h = two (Load u p path) (λ t. has t p) (λ t. path_has t path) (part_of p) (part_of_path path) h
    part_of (Read u p path) h = two (Read u p path) (λ t. has t p) (λ t. path_has t path) (part_of p) (part_of_path path) h
    part_of (Tagged u p) h = one (Tagged u p) (λ t. has t p) (part_of p) h
    part_of (PtrOk u p) h = one (PtrOk u p) (λ t. has t p) (part_of p) h
    part_of (Global x path) h = one (Global x path) (λ t. path_has t path) (part_of_path path) h
    part_of (Sel e path) h = two (Sel e path) (λ t. has t e) (λ t. path_has t path) (part_of e) (part_of_path path) h
    part_of (Upd e path v) h = three (Upd e path v) (λ t. has t e) (λ t. path_has t path) (λ t. has t v) (part_of e) (part_of_path path) (part_of v) h

    part_of_path : (path : Path) → path_has test path ≡ true → Part test (λ t. path_has t path)
    part_of_path Here h = absurd (false≢true h)
    part_of_path (IntoField k path) h = part_of_path path h
    part_of_path (IntoElement e path) h = either (λ t. has t e) (λ t. path_has t path) (part_of e) (part_of_path path) h

  part_of_some : (es : List Exp) → some_has test es ≡ true → Part test (λ t. some_has t es)
  part_of_some [] h = absurd (false≢true h)
  part_of_some (e ∷ es) h = either (λ t. has t e) (λ t. some_has t es) (part_of e) (part_of_some es) h

  part_of_start : (ss : List M.Start) → start_has test ss ≡ true → Part test (λ t. start_has t ss)
  part_of_start [] h = absurd (false≢true h)
  part_of_start (s ∷ ss) h = either (λ t. has t s.exp) (λ t. start_has t ss) (part_of s.exp) (part_of_start ss) h

  part_of_place : (place : M.Place) → place_has test place ≡ true → Part test (λ t. place_has t place)
  part_of_place (M.Stored u p path) h = either (λ t. has t p) (λ t. path_has t path) (part_of p) (part_of_path path) h
  part_of_place (M.Written u p path) h = either (λ t. has t p) (λ t. path_has t path) (part_of p) (part_of_path path) h
  part_of_place (M.Global x path) h = part_of_path path h

  part_of_program : (m : Mon) → program_has test no_place m ≡ true → Part test (λ t. program_has t no_place m)
  part_of_program (M.Ret es) h = part_of_some es h
  part_of_program (M.Bind m xs n) h = either (λ t. program_has t no_place m) (λ t. program_has t no_place n) (part_of_program m) (part_of_program n) h
  part_of_program (M.Guard e) h = part_of e h
  part_of_program (M.If e m n) h =
      either (λ t. has t e || program_has t no_place m) (λ t. program_has t no_place n) (either (λ t. has t e) (λ t. program_has t no_place m) (part_of e) (part_of_program m)) (part_of_program n) h
  part_of_program (M.Write place e) h = either (λ t. place_has t place) (λ t. has t e) (part_of_place place) (part_of e) h
  part_of_program (M.Loop starts guard turn m) h =
      either (λ t. start_has t starts || has t guard || has t turn) (λ t. program_has t no_place m)
      (either (λ t. start_has t starts || has t guard) (λ t. has t turn) (either (λ t. start_has t starts) (λ t. has t guard) (part_of_start starts) (part_of guard)) (part_of turn)) (part_of_program m) h
  part_of_program (M.Call f es) h = part_of_some es h
  part_of_program (M.Pick k) h = absurd (false≢true h)

-- a test that a name passes, which is free in a program
module _ (test : Exp → Bool) (y : Name) (passes : test (Var y) ≡ true) where
  passes_there : (e : Exp) → is_name y e ≡ true → test e ≡ true
  passes_there (Var x) h = subst (λ z. test (Var z) ≡ true) (name_is y x h) passes
  passes_there e h = absurd (false≢true h)

  named : (e : Exp) → names y e ≡ true → has test e ≡ true
  named e h = let p = part_of (is_name y) e h in p.is_there test (passes_there p.part p.passes)

  named_in_path : (path : Path) → path_has (is_name y) path ≡ true → path_has test path ≡ true
  named_in_path path h = let p = part_of_path (is_name y) path h in p.is_there test (passes_there p.part p.passes)

  named_in_some : (es : List Exp) → is_in_some y es ≡ true → some_has test es ≡ true
  named_in_some [] h = absurd (false≢true h)
  named_in_some (e ∷ es) h = either_there (has test e) (some_has test es) (names y e) (is_in_some y es) (named e) (named_in_some es) h

  named_in_start : (ss : List M.Start) → is_in_start y ss ≡ true → start_has test ss ≡ true
  named_in_start [] h = absurd (false≢true h)
  named_in_start (s ∷ ss) h = either_there (has test s.exp) (start_has test ss) (names y s.exp) (is_in_start y ss) (named s.exp) (named_in_start ss) h

  named_in_place : (place : M.Place) → is_in_place y place ≡ true → place_has test place ≡ true
  named_in_place (M.Stored u p path) h = either_there (has test p) (path_has test path) (names y p) (path_has (is_name y) path) (named p) (named_in_path path) h
  named_in_place (M.Written u p path) h = either_there (has test p) (path_has test path) (names y p) (path_has (is_name y) path) (named p) (named_in_path path) h
  named_in_place (M.Global x path) h = named_in_path path h

  pub free_there : (m : Mon) → is_free y m ≡ true → program_has test no_place m ≡ true
  free_there (M.Ret es) h = named_in_some es h
  free_there (M.Bind m xs n) h =
      either_there (program_has test no_place m) (program_has test no_place n) (is_free y m) (not (is_among y xs) && is_free y n) (free_there m)
      (λ k. free_there n (and_parts (not (is_among y xs)) (is_free y n) k).1) h
  free_there (M.Guard e) h = named e h
  free_there (M.If e m n) h =
      either_there (has test e || program_has test no_place m) (program_has test no_place n) (names y e || is_free y m) (is_free y n)
      (λ k. either_there (has test e) (program_has test no_place m) (names y e) (is_free y m) (named e) (free_there m) k) (free_there n) h
  free_there (M.Write place e) h = either_there (place_has test place) (has test e) (is_in_place y place) (names y e) (named_in_place place) (named e) h
  free_there (M.Loop starts guard turn m) h = in_loop (start_has test starts) (has test guard) (has test turn) (program_has test no_place m)
      (either_there (start_has test starts) (has test guard || has test turn || program_has test no_place m) (is_in_start y starts) (not (is_among y (start_names starts)) && (names y guard || names y turn || is_free y m))
      (named_in_start starts)
      (λ k. either_there (has test guard || has test turn) (program_has test no_place m) (names y guard || names y turn) (is_free y m)
      (λ j. either_there (has test guard) (has test turn) (names y guard) (names y turn) (named guard) (named turn) j)
      (free_there m)
      (and_parts (not (is_among y (start_names starts))) (names y guard || names y turn || is_free y m) k).1)
      h)
    where
      in_loop : (a b c d : Bool) → (a || (b || c || d)) ≡ true → (a || b || c || d) ≡ true
      in_loop true b c d e = refl
      in_loop false b c d e = e
  free_there (M.Call f es) h = named_in_some es h
  free_there (M.Pick k) h = absurd (false≢true h)

all_parameters : (ps : List Name) (m : Mon) → program_has (is_stray m ps) no_place m ≡ false → AllFreeAmong ps m
all_parameters ps m h y f = by_place (is_among y ps) refl
  where
    by_place : (b : Bool) → is_among y ps ≡ b → is_among y ps ≡ true
    by_place true e = e
    by_place false e = absurd (false≢true (sym h ∙ free_there (is_stray m ps) y (and_from (not (is_among y ps)) (is_free y m) (ap not e) f) m f))

none_is_stray : (ps : List Name) (m : Mon) → AllFreeAmong ps m → (e : Exp) → is_stray m ps e ≡ true → ⊥
none_is_stray ps m h (Var x) k = let p = and_parts (not (is_among x ps)) (is_free x m) k in false≢true (ap not (sym (h x p.1)) ∙ p.0)
none_is_stray ps m h e k = false≢true k

pub no_strays : (ps : List Name) (m : Mon) (b : Bool) → b ≡ program_has (is_stray m ps) no_place m → (not b ≡ true) ↔ AllFreeAmong ps m
no_strays ps m b e = (
  (λ h. all_parameters ps m (sym e ∙ not-true b h)),
  (λ h. ap not (e ∙ false_from_ne_true (program_has (is_stray m ps) no_place m) (λ k. let p = part_of_program (is_stray m ps) m k in none_is_stray ps m h p.part p.passes))),
)

pub all_known : (xs : List Name) (m : Mon) (b : Bool) → b ≡ program_has (is_unknown xs) no_place m → not b ≡ true → AllFreeAmong xs m
all_known xs m b e h y f = by_place (is_among y xs) refl
  where
    by_place : (t : Bool) → is_among y xs ≡ t → is_among y xs ≡ true
    by_place true i = i
    by_place false i = absurd (false≢true (sym (not-true b h) ∙ e ∙ free_there (is_unknown xs) y (ap not i) m f))
