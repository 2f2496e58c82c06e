-- The first step in an expression that a choice of steps makes: outermost first, then from left to right, with the facts that
-- flow to each part. And the first step in the expressions that stand in a program directly.
use Rattle.std.specs.Prelude.{ℕ, suc, ◌+◌, List, [], ◌∷◌, Option, Some, None, unwrap_or}
use Rattle.expression_lang.specs.Expression.{Exp, Var, WordLit, NumberLit, TruthLit, WordBinary, WordShift, WordUnary, WordCompare, Cast, ToNat, ToInt, ToWord, Arith, Negate, Lt, Le, Between, Eq, And, Or, Imp, Not, If, Padd, At, Load, Read, Tagged, PtrOk, Global, Sel, Upd, Path, Here, IntoField, IntoElement}
use Rattle.expression_lang.specs.Sort.{Scope}
use Rattle.expression_lang.specs.Sorted.{scope_with}
use Rattle.ac_expr.specs.Fact.{Fact, Whole, NotTrue}
use Rattle.monad_lang.specs.Program as M
use Rattle.monad_lang.specs.Program.{Mon, Place, Start}
use Rattle.monad_lang.specs.Run.{start_names}
use Rattle.monad_lang.specs.Sorted.{start_scalars}

-- what is to stand in the place of an expression under the facts that are known there, where a step is made
abbrev pub Choice : Type 0
Choice = List Fact → Exp → Option Exp

abbrev pub or_else : {A : Type 0} → Option A → Option A → Option A
or_else (Some a) o = Some a
or_else None o = o

-- the first of the parts of which there is another
abbrev pub in_one : {A B : Type 0} → (A → B) → Option A → Option B
in_one k (Some a) = Some (k a)
in_one k None = None

abbrev pub in_two : {A B C : Type 0} → (A → B → C) → A → B → Option A → Option B → Option C
in_two k a b (Some x) o = Some (k x b)
in_two k a b None o = in_one (λ y. k a y) o

abbrev pub in_three : {A B C D : Type 0} → (A → B → C → D) → A → B → C → Option A → Option B → Option C → Option D
in_three k a b c (Some x) o q = Some (k x b c)
in_three k a b c None o q = in_two (λ y z. k a y z) b c o q

-- `sel` and `upd` are of assertions alone: their parts are left
abbrev mutual
  pub first_step : Choice → List Fact → Exp → Option Exp
  first_step f fs (Var x) = f fs (Var x)
  first_step f fs (WordLit w) = f fs (WordLit w)
  first_step f fs (NumberLit n) = f fs (NumberLit n)
  first_step f fs (TruthLit b) = f fs (TruthLit b)
  first_step f fs (WordBinary op a b) =
      or_else (f fs (WordBinary op a b)) (in_two (λ x y. WordBinary op x y) a b (first_step f fs a) (first_step f fs b))
  first_step f fs (WordShift op a n) =
      or_else (f fs (WordShift op a n)) (in_two (λ x y. WordShift op x y) a n (first_step f fs a) (first_step f fs n))
  first_step f fs (WordUnary op a) = or_else (f fs (WordUnary op a)) (in_one (λ x. WordUnary op x) (first_step f fs a))
  first_step f fs (WordCompare op a b) =
      or_else (f fs (WordCompare op a b)) (in_two (λ x y. WordCompare op x y) a b (first_step f fs a) (first_step f fs b))
  first_step f fs (Cast op width a) = or_else (f fs (Cast op width a)) (in_one (λ x. Cast op width x) (first_step f fs a))
  first_step f fs (ToNat a) = or_else (f fs (ToNat a)) (in_one (λ x. ToNat x) (first_step f fs a))
  first_step f fs (ToInt a) = or_else (f fs (ToInt a)) (in_one (λ x. ToInt x) (first_step f fs a))
  first_step f fs (ToWord width a) = or_else (f fs (ToWord width a)) (in_one (λ x. ToWord width x) (first_step f fs a))
  first_step f fs (Arith op a b) =
      or_else (f fs (Arith op a b)) (in_two (λ x y. Arith op x y) a b (first_step f fs a) (first_step f fs b))
  first_step f fs (Negate a) = or_else (f fs (Negate a)) (in_one (λ x. Negate x) (first_step f fs a))
  first_step f fs (Lt a b) = or_else (f fs (Lt a b)) (in_two (λ x y. Lt x y) a b (first_step f fs a) (first_step f fs b))
  first_step f fs (Le a b) = or_else (f fs (Le a b)) (in_two (λ x y. Le x y) a b (first_step f fs a) (first_step f fs b))
  first_step f fs (Between low a high) =
      or_else (f fs (Between low a high)) (in_one (λ x. Between low x high) (first_step f fs a))
  first_step f fs (Eq a b) = or_else (f fs (Eq a b)) (in_two (λ x y. Eq x y) a b (first_step f fs a) (first_step f fs b))
  first_step f fs (And a b) =
      or_else (f fs (And a b)) (in_two (λ x y. And x y) a b (first_step f fs a) (first_step f (Whole a ∷ fs) b))
  first_step f fs (Or a b) =
      or_else (f fs (Or a b)) (in_two (λ x y. Or x y) a b (first_step f fs a) (first_step f (NotTrue a ∷ fs) b))
  first_step f fs (Imp a b) =
      or_else (f fs (Imp a b)) (in_two (λ x y. Imp x y) a b (first_step f fs a) (first_step f (Whole a ∷ fs) b))
  first_step f fs (Not a) = or_else (f fs (Not a)) (in_one (λ x. Not x) (first_step f fs a))
  first_step f fs (If c a b) =
      or_else (f fs (If c a b))
      (in_three (λ x y z. If x y z) c a b (first_step f fs c) (first_step f (Whole c ∷ fs) a) (first_step f (NotTrue c ∷ fs) b))
  first_step f fs (Padd t p n) =
      or_else (f fs (Padd t p n)) (in_two (λ x y. Padd t x y) p n (first_step f fs p) (first_step f fs n))
  first_step f fs (At t p path) =
      or_else (f fs (At t p path)) (in_two (λ x y. At t x y) p path (first_step f fs p) (path_step f fs path))
  first_step f fs (Load t p path) =
      or_else (f fs (Load t p path)) (in_two (λ x y. Load t x y) p path (first_step f fs p) (path_step f fs path))
  first_step f fs (Read t p path) =
      or_else (f fs (Read t p path)) (in_two (λ x y. Read t x y) p path (first_step f fs p) (path_step f fs path))
  first_step f fs (Tagged t p) = or_else (f fs (Tagged t p)) (in_one (λ x. Tagged t x) (first_step f fs p))
  first_step f fs (PtrOk t p) = or_else (f fs (PtrOk t p)) (in_one (λ x. PtrOk t x) (first_step f fs p))
  first_step f fs (Global x path) = or_else (f fs (Global x path)) (in_one (λ y. Global x y) (path_step f fs path))
  first_step f fs (Sel e path) = f fs (Sel e path)
  first_step f fs (Upd e path v) = f fs (Upd e path v)

  pub path_step : Choice → List Fact → Path → Option Path
  path_step f fs Here = None
  path_step f fs (IntoField k path) = in_one (λ y. IntoField k y) (path_step f fs path)
  path_step f fs (IntoElement e path) = in_two (λ x y. IntoElement x y) e path (first_step f fs e) (path_step f fs path)

abbrev pub list_step : Choice → List Fact → List Exp → Option (List Exp)
list_step f fs [] = None
list_step f fs (e ∷ es) = in_two (λ x xs. x ∷ xs) e es (first_step f fs e) (list_step f fs es)

abbrev pub start_step : Choice → List Fact → List Start → Option (List Start)
start_step f fs [] = None
start_step f fs (s ∷ ss) =
    in_two (λ x xs. record { name = s.name; exp = x } ∷ xs) s.exp ss (first_step f fs s.exp) (start_step f fs ss)

abbrev pub place_step : Choice → List Fact → Place → Option Place
place_step f fs (M.Stored t p path) = in_two (λ x y. M.Stored t x y) p path (first_step f fs p) (path_step f fs path)
place_step f fs (M.Written t p path) = in_two (λ x y. M.Written t x y) p path (first_step f fs p) (path_step f fs path)
place_step f fs (M.Global x path) = in_one (λ y. M.Global x y) (path_step f fs path)

-- what is in scope in a loop that begins so
abbrev pub scope_started : List Start → Scope → Scope
scope_started starts g = scope_with (start_names starts) (unwrap_or (start_scalars g starts) []) g

-- in the expressions that stand in the program directly; a loop's guard has no facts, and its test the guard, over its names
abbrev pub direct_step_in : (Scope → Choice) → Scope → List Fact → Mon → Option Mon
direct_step_in f g fs (M.Ret es) = in_one (λ xs. M.Ret xs) (list_step (f g) fs es)
direct_step_in f g fs (M.Bind m xs n) = None
direct_step_in f g fs (M.Guard e) = in_one (λ x. M.Guard x) (first_step (f g) fs e)
direct_step_in f g fs (M.If e m n) = in_one (λ x. M.If x m n) (first_step (f g) fs e)
direct_step_in f g fs (M.Write place e) =
    in_two (λ x y. M.Write x y) place e (place_step (f g) fs place) (first_step (f g) fs e)
direct_step_in f g fs (M.Loop starts guard test m) =
    let inner = f (scope_started starts g) in
    in_three (λ x y z. M.Loop x y z m) starts guard test (start_step (f g) fs starts) (first_step inner [] guard)
    (first_step inner (Whole guard ∷ []) test)
direct_step_in f g fs (M.Call h es) = in_one (λ xs. M.Call h xs) (list_step (f g) fs es)
direct_step_in f g fs (M.Pick k) = None

-- Each step leaves fewer nodes.

abbrev mutual
  pub nodes : Exp → ℕ
  nodes (Var x) = 1
  nodes (WordLit w) = 1
  nodes (NumberLit n) = 1
  nodes (TruthLit b) = 1
  nodes (WordBinary op a b) = suc (nodes a + nodes b)
  nodes (WordShift op a n) = suc (nodes a + nodes n)
  nodes (WordUnary op a) = suc (nodes a)
  nodes (WordCompare op a b) = suc (nodes a + nodes b)
  nodes (Cast op width a) = suc (nodes a)
  nodes (ToNat a) = suc (nodes a)
  nodes (ToInt a) = suc (nodes a)
  nodes (ToWord width a) = suc (nodes a)
  nodes (Arith op a b) = suc (nodes a + nodes b)
  nodes (Negate a) = suc (nodes a)
  nodes (Lt a b) = suc (nodes a + nodes b)
  nodes (Le a b) = suc (nodes a + nodes b)
  nodes (Between low a high) = suc (nodes a)
  nodes (Eq a b) = suc (nodes a + nodes b)
  nodes (And a b) = suc (nodes a + nodes b)
  nodes (Or a b) = suc (nodes a + nodes b)
  nodes (Imp a b) = suc (nodes a + nodes b)
  nodes (Not a) = suc (nodes a)
  nodes (If c a b) = suc (nodes c + nodes a + nodes b)
  nodes (Padd t p n) = suc (nodes p + nodes n)
  nodes (At t p path) = suc (nodes p + path_nodes path)
  nodes (Load t p path) = suc (nodes p + path_nodes path)
  nodes (Read t p path) = suc (nodes p + path_nodes path)
  nodes (Tagged t p) = suc (nodes p)
  nodes (PtrOk t p) = suc (nodes p)
  nodes (Global x path) = suc (path_nodes path)
  nodes (Sel e path) = suc (nodes e + path_nodes path)
  nodes (Upd e path v) = suc (nodes e + path_nodes path + nodes v)

  pub path_nodes : Path → ℕ
  path_nodes Here = 0
  path_nodes (IntoField k path) = path_nodes path
  path_nodes (IntoElement e path) = nodes e + path_nodes path

abbrev pub list_nodes : List Exp → ℕ
list_nodes [] = 0
list_nodes (e ∷ es) = nodes e + list_nodes es

abbrev pub start_nodes : List Start → ℕ
start_nodes [] = 0
start_nodes (s ∷ ss) = nodes s.exp + start_nodes ss

abbrev pub place_nodes : Place → ℕ
place_nodes (M.Stored t p path) = nodes p + path_nodes path
place_nodes (M.Written t p path) = nodes p + path_nodes path
place_nodes (M.Global x path) = path_nodes path

abbrev pub direct_nodes : Mon → ℕ
direct_nodes (M.Ret es) = list_nodes es
direct_nodes (M.Bind m xs n) = 0
direct_nodes (M.Guard e) = nodes e
direct_nodes (M.If e m n) = nodes e
direct_nodes (M.Write place e) = place_nodes place + nodes e
direct_nodes (M.Loop starts guard test m) = start_nodes starts + nodes guard + nodes test
direct_nodes (M.Call f es) = list_nodes es
direct_nodes (M.Pick k) = 0
