-- Each step leaves fewer nodes, so there are as many steps as there were nodes at most, and then none can be made.
use Rattle.std.proofs.Common.{◌≡◌, ℕ, zero, suc, ◌+◌, ◌<◌, ◌≤◌, List, [], ◌∷◌, Option, Some, None, refl, sym, ap, ◌∙◌, arith}
use Rattle.expression_lang.specs.Expression.{Exp, Var, WordLit, NumberLit, TruthLit, WordBinary, WordShift, WordUnary, WordCompare, Cast, ToNat, ToInt, ToWord, Arith, Negate, Lt, Le, Between, Eq, And, Or, Imp, Not, If, Padd, At, Load, Read, Tagged, PtrOk, Global, Sel, Upd, Path, Here, IntoField, IntoElement}
use Rattle.expression_lang.specs.Sort.{Scope}
use Rattle.ac_expr.specs.Fact.{Fact, Whole, NotTrue}
use Rattle.monad_lang.specs.Program as M
use Rattle.monad_lang.specs.Program.{Mon, Place, Start}
use Rattle.rule_eq.specs.Rule.{Point}
use Rattle.rule_eq.specs.Table.{within}
use Rattle.expression_steps.specs.Rewritten.{Choice, first_step, path_step, list_step, start_step, place_step, nodes, path_nodes, list_nodes, start_nodes, place_nodes, direct_nodes}
use Rattle.polish.specs.Direct.{direct_step, more, direct_steps}
use Rattle.polish.specs.Polished.{last_of}
use Rattle.polish.proofs.Cases.{first_case, one_case, two_case, three_case}

-- what stands in an expression's place is smaller
abbrev pub Shrinks : Choice → Type 0
Shrinks f = (fs : List Fact) (a b : Exp) → f fs a ≡ Some b → nodes b < nodes a

module _ (f : Choice) (shrinks : Shrinks f) where
  mutual
    step_fewer : (fs : List Fact) (a r : Exp) → first_step f fs a ≡ Some r → nodes r < nodes a
    step_fewer fs (Var x) r h = shrinks fs (Var x) r h
    step_fewer fs (WordLit w) r h = shrinks fs (WordLit w) r h
    step_fewer fs (NumberLit n) r h = shrinks fs (NumberLit n) r h
    step_fewer fs (TruthLit b) r h = shrinks fs (TruthLit b) r h
    step_fewer fs (WordBinary op a b) r h =
        first_case r (λ z. nodes z < nodes (WordBinary op a b)) _ _ h (λ i. shrinks fs (WordBinary op a b) r i)
        (λ i.
        two_case r (λ z. nodes z < nodes (WordBinary op a b)) (λ x y. WordBinary op x y) a b (first_step f fs a)
        (first_step f fs b) i (λ x j. omega (arith, step_fewer fs a x j)) (λ y j. omega (arith, step_fewer fs b y j)))
    step_fewer fs (WordShift op a n) r h =
        first_case r (λ z. nodes z < nodes (WordShift op a n)) _ _ h (λ i. shrinks fs (WordShift op a n) r i)
        (λ i.
        two_case r (λ z. nodes z < nodes (WordShift op a n)) (λ x y. WordShift op x y) a n (first_step f fs a)
        (first_step f fs n) i (λ x j. omega (arith, step_fewer fs a x j)) (λ y j. omega (arith, step_fewer fs n y j)))
    step_fewer fs (WordUnary op a) r h =
        first_case r (λ z. nodes z < nodes (WordUnary op a)) _ _ h (λ i. shrinks fs (WordUnary op a) r i)
        (λ i.
        one_case r (λ z. nodes z < nodes (WordUnary op a)) (λ x. WordUnary op x) (first_step f fs a) i
        (λ x j. omega (arith, step_fewer fs a x j)))
    step_fewer fs (WordCompare op a b) r h =
        first_case r (λ z. nodes z < nodes (WordCompare op a b)) _ _ h (λ i. shrinks fs (WordCompare op a b) r i)
        (λ i.
        two_case r (λ z. nodes z < nodes (WordCompare op a b)) (λ x y. WordCompare op x y) a b (first_step f fs a)
        (first_step f fs b) i (λ x j. omega (arith, step_fewer fs a x j)) (λ y j. omega (arith, step_fewer fs b y j)))
    step_fewer fs (Cast op width a) r h =
        first_case r (λ z. nodes z < nodes (Cast op width a)) _ _ h (λ i. shrinks fs (Cast op width a) r i)
        (λ i.
        one_case r (λ z. nodes z < nodes (Cast op width a)) (λ x. Cast op width x) (first_step f fs a) i
        (λ x j. omega (arith, step_fewer fs a x j)))
    step_fewer fs (ToNat a) r h =
        first_case r (λ z. nodes z < nodes (ToNat a)) _ _ h (λ i. shrinks fs (ToNat a) r i)
        (λ i.
        one_case r (λ z. nodes z < nodes (ToNat a)) (λ x. ToNat x) (first_step f fs a) i
        (λ x j. omega (arith, step_fewer fs a x j)))
    step_fewer fs (ToInt a) r h =
        first_case r (λ z. nodes z < nodes (ToInt a)) _ _ h (λ i. shrinks fs (ToInt a) r i)
        (λ i.
        one_case r (λ z. nodes z < nodes (ToInt a)) (λ x. ToInt x) (first_step f fs a) i
        (λ x j. omega (arith, step_fewer fs a x j)))
    step_fewer fs (ToWord width a) r h =
        first_case r (λ z. nodes z < nodes (ToWord width a)) _ _ h (λ i. shrinks fs (ToWord width a) r i)
        (λ i.
        one_case r (λ z. nodes z < nodes (ToWord width a)) (λ x. ToWord width x) (first_step f fs a) i
        (λ x j. omega (arith, step_fewer fs a x j)))
    step_fewer fs (Arith op a b) r h =
        first_case r (λ z. nodes z < nodes (Arith op a b)) _ _ h (λ i. shrinks fs (Arith op a b) r i)
        (λ i.
        two_case r (λ z. nodes z < nodes (Arith op a b)) (λ x y. Arith op x y) a b (first_step f fs a) (first_step f fs b) i
        (λ x j. omega (arith, step_fewer fs a x j)) (λ y j. omega (arith, step_fewer fs b y j)))
    step_fewer fs (Negate a) r h =
        first_case r (λ z. nodes z < nodes (Negate a)) _ _ h (λ i. shrinks fs (Negate a) r i)
        (λ i.
        one_case r (λ z. nodes z < nodes (Negate a)) (λ x. Negate x) (first_step f fs a) i
        (λ x j. omega (arith, step_fewer fs a x j)))
    step_fewer fs (Lt a b) r h =
        first_case r (λ z. nodes z < nodes (Lt a b)) _ _ h (λ i. shrinks fs (Lt a b) r i)
        (λ i.
        two_case r (λ z. nodes z < nodes (Lt a b)) (λ x y. Lt x y) a b (first_step f fs a) (first_step f fs b) i
        (λ x j. omega (arith, step_fewer fs a x j)) (λ y j. omega (arith, step_fewer fs b y j)))
    step_fewer fs (Le a b) r h =
        first_case r (λ z. nodes z < nodes (Le a b)) _ _ h (λ i. shrinks fs (Le a b) r i)
        (λ i.
        two_case r (λ z. nodes z < nodes (Le a b)) (λ x y. Le x y) a b (first_step f fs a) (first_step f fs b) i
        (λ x j. omega (arith, step_fewer fs a x j)) (λ y j. omega (arith, step_fewer fs b y j)))
    step_fewer fs (Between low a high) r h =
        first_case r (λ z. nodes z < nodes (Between low a high)) _ _ h (λ i. shrinks fs (Between low a high) r i)
        (λ i.
        one_case r (λ z. nodes z < nodes (Between low a high)) (λ x. Between low x high) (first_step f fs a) i
        (λ x j. omega (arith, step_fewer fs a x j)))
    step_fewer fs (Eq a b) r h =
        first_case r (λ z. nodes z < nodes (Eq a b)) _ _ h (λ i. shrinks fs (Eq a b) r i)
        (λ i.
        two_case r (λ z. nodes z < nodes (Eq a b)) (λ x y. Eq x y) a b (first_step f fs a) (first_step f fs b) i
        (λ x j. omega (arith, step_fewer fs a x j)) (λ y j. omega (arith, step_fewer fs b y j)))
    step_fewer fs (And a b) r h =
        first_case r (λ z. nodes z < nodes (And a b)) _ _ h (λ i. shrinks fs (And a b) r i)
        (λ i.
        two_case r (λ z. nodes z < nodes (And a b)) (λ x y. And x y) a b (first_step f fs a) (first_step f (Whole a ∷ fs) b) i
        (λ x j. omega (arith, step_fewer fs a x j)) (λ y j. omega (arith, step_fewer (Whole a ∷ fs) b y j)))
    step_fewer fs (Or a b) r h =
        first_case r (λ z. nodes z < nodes (Or a b)) _ _ h (λ i. shrinks fs (Or a b) r i)
        (λ i.
        two_case r (λ z. nodes z < nodes (Or a b)) (λ x y. Or x y) a b (first_step f fs a) (first_step f (NotTrue a ∷ fs) b) i
        (λ x j. omega (arith, step_fewer fs a x j)) (λ y j. omega (arith, step_fewer (NotTrue a ∷ fs) b y j)))
    step_fewer fs (Imp a b) r h =
        first_case r (λ z. nodes z < nodes (Imp a b)) _ _ h (λ i. shrinks fs (Imp a b) r i)
        (λ i.
        two_case r (λ z. nodes z < nodes (Imp a b)) (λ x y. Imp x y) a b (first_step f fs a) (first_step f (Whole a ∷ fs) b) i
        (λ x j. omega (arith, step_fewer fs a x j)) (λ y j. omega (arith, step_fewer (Whole a ∷ fs) b y j)))
    step_fewer fs (Not a) r h =
        first_case r (λ z. nodes z < nodes (Not a)) _ _ h (λ i. shrinks fs (Not a) r i)
        (λ i.
        one_case r (λ z. nodes z < nodes (Not a)) (λ x. Not x) (first_step f fs a) i
        (λ x j. omega (arith, step_fewer fs a x j)))
    step_fewer fs (If c a b) r h =
        first_case r (λ z. nodes z < nodes (If c a b)) _ _ h (λ i. shrinks fs (If c a b) r i)
        (λ i.
        three_case r (λ z. nodes z < nodes (If c a b)) (λ x y z. If x y z) c a b (first_step f fs c)
        (first_step f (Whole c ∷ fs) a) (first_step f (NotTrue c ∷ fs) b) i (λ x j. omega (arith, step_fewer fs c x j))
        (λ y j. omega (arith, step_fewer (Whole c ∷ fs) a y j)) (λ z j. omega (arith, step_fewer (NotTrue c ∷ fs) b z j)))
    step_fewer fs (Padd t p n) r h =
        first_case r (λ z. nodes z < nodes (Padd t p n)) _ _ h (λ i. shrinks fs (Padd t p n) r i)
        (λ i.
        two_case r (λ z. nodes z < nodes (Padd t p n)) (λ x y. Padd t x y) p n (first_step f fs p) (first_step f fs n) i
        (λ x j. omega (arith, step_fewer fs p x j)) (λ y j. omega (arith, step_fewer fs n y j)))
    step_fewer fs (At t p path) r h =
        first_case r (λ z. nodes z < nodes (At t p path)) _ _ h (λ i. shrinks fs (At t p path) r i)
        (λ i.
        two_case r (λ z. nodes z < nodes (At t p path)) (λ x y. At t x y) p path (first_step f fs p) (path_step f fs path) i
        (λ x j. omega (arith, step_fewer fs p x j)) (λ y j. omega (arith, path_fewer fs path y j)))
    step_fewer fs (Load t p path) r h =
        first_case r (λ z. nodes z < nodes (Load t p path)) _ _ h (λ i. shrinks fs (Load t p path) r i)
        (λ i.
        two_case r (λ z. nodes z < nodes (Load t p path)) (λ x y. Load t x y) p path (first_step f fs p) (path_step f fs path)
        i (λ x j. omega (arith, step_fewer fs p x j)) (λ y j. omega (arith, path_fewer fs path y j)))
    step_fewer fs (Read t p path) r h =
        first_case r (λ z. nodes z < nodes (Read t p path)) _ _ h (λ i. shrinks fs (Read t p path) r i)
        (λ i.
        two_case r (λ z. nodes z < nodes (Read t p path)) (λ x y. Read t x y) p path (first_step f fs p) (path_step f fs path)
        i (λ x j. omega (arith, step_fewer fs p x j)) (λ y j. omega (arith, path_fewer fs path y j)))
    step_fewer fs (Tagged t p) r h =
        first_case r (λ z. nodes z < nodes (Tagged t p)) _ _ h (λ i. shrinks fs (Tagged t p) r i)
        (λ i.
        one_case r (λ z. nodes z < nodes (Tagged t p)) (λ x. Tagged t x) (first_step f fs p) i
        (λ x j. omega (arith, step_fewer fs p x j)))
    step_fewer fs (PtrOk t p) r h =
        first_case r (λ z. nodes z < nodes (PtrOk t p)) _ _ h (λ i. shrinks fs (PtrOk t p) r i)
        (λ i.
        one_case r (λ z. nodes z < nodes (PtrOk t p)) (λ x. PtrOk t x) (first_step f fs p) i
        (λ x j. omega (arith, step_fewer fs p x j)))
    step_fewer fs (Global x path) r h =
        first_case r (λ z. nodes z < nodes (Global x path)) _ _ h (λ i. shrinks fs (Global x path) r i)
        (λ i.
        one_case r (λ z. nodes z < nodes (Global x path)) (λ y. Global x y) (path_step f fs path) i
        (λ y j. omega (arith, path_fewer fs path y j)))
    step_fewer fs (Sel e path) r h = shrinks fs (Sel e path) r h
    step_fewer fs (Upd e path v) r h = shrinks fs (Upd e path v) r h

    path_fewer : (fs : List Fact) (path r : Path) → path_step f fs path ≡ Some r → path_nodes r < path_nodes path
    path_fewer fs Here r h = absurd cc
    path_fewer fs (IntoField k path) r h =
        one_case r (λ z. path_nodes z < path_nodes path) (λ y. IntoField k y) _ h (λ y j. path_fewer fs path y j)
    path_fewer fs (IntoElement e path) r h =
        two_case r (λ z. path_nodes z < nodes e + path_nodes path) (λ x y. IntoElement x y) e path (first_step f fs e)
        (path_step f fs path) h
        (λ x j. omega (arith, step_fewer fs e x j)) (λ y j. omega (arith, path_fewer fs path y j))

  list_fewer : (fs : List Fact) (es r : List Exp) → list_step f fs es ≡ Some r → list_nodes r < list_nodes es
  list_fewer fs [] r h = absurd cc
  list_fewer fs (e ∷ es) r h =
      two_case r (λ z. list_nodes z < nodes e + list_nodes es) (λ x xs. x ∷ xs) e es (first_step f fs e) (list_step f fs es) h
      (λ x j. omega (arith, step_fewer fs e x j)) (λ y j. omega (arith, list_fewer fs es y j))

  start_fewer : (fs : List Fact) (ss r : List Start) → start_step f fs ss ≡ Some r → start_nodes r < start_nodes ss
  start_fewer fs [] r h = absurd cc
  start_fewer fs (s ∷ ss) r h =
      two_case r (λ z. start_nodes z < nodes s.exp + start_nodes ss) (λ x xs. record { name = s.name; exp = x } ∷ xs) s.exp ss
      (first_step f fs s.exp) (start_step f fs ss) h
      (λ x j. omega (arith, step_fewer fs s.exp x j)) (λ y j. omega (arith, start_fewer fs ss y j))

  place_fewer : (fs : List Fact) (place r : Place) → place_step f fs place ≡ Some r → place_nodes r < place_nodes place
  place_fewer fs (M.Stored t p path) r h =
      two_case r (λ z. place_nodes z < nodes p + path_nodes path) (λ x y. M.Stored t x y) p path (first_step f fs p)
      (path_step f fs path) h
      (λ x j. omega (arith, step_fewer fs p x j)) (λ y j. omega (arith, path_fewer fs path y j))
  place_fewer fs (M.Written t p path) r h =
      two_case r (λ z. place_nodes z < nodes p + path_nodes path) (λ x y. M.Written t x y) p path (first_step f fs p)
      (path_step f fs path) h
      (λ x j. omega (arith, step_fewer fs p x j)) (λ y j. omega (arith, path_fewer fs path y j))
  place_fewer fs (M.Global x path) r h =
      one_case r (λ z. place_nodes z < path_nodes path) (λ y. M.Global x y) _ h (λ y j. path_fewer fs path y j)

module _ (f : Scope → Choice) (shrinks : (g : Scope) → Shrinks (f g)) where
  abbrev inner : List Start → Point → Scope
  inner starts at = (within starts [] at).setting.scope

  abbrev here : Point → Choice
  here at = f at.setting.scope

  abbrev small : (at : Point) → Shrinks (here at)
  small at = shrinks at.setting.scope

  pub direct_fewer : (at : Point) (m r : Mon) → direct_step f at m ≡ Some r → direct_nodes r < direct_nodes m
  direct_fewer at (M.Ret es) r h =
      one_case r (λ z. direct_nodes z < list_nodes es) (λ xs. M.Ret xs) _ h
      (λ x j. list_fewer (here at) (small at) at.facts es x j)
  direct_fewer at (M.Guard e) r h = one_case r (λ z. direct_nodes z < nodes e) (λ x. M.Guard x) _ h
      (λ x j. step_fewer (here at) (small at) at.facts e x j)
  direct_fewer at (M.If e m n) r h = one_case r (λ z. direct_nodes z < nodes e) (λ x. M.If x m n) _ h
      (λ x j. step_fewer (here at) (small at) at.facts e x j)
  direct_fewer at (M.Write place e) r h =
      two_case r (λ z. direct_nodes z < place_nodes place + nodes e) (λ x y. M.Write x y) place e
      (place_step (here at) at.facts place)
      (first_step (here at) at.facts e) h
      (λ x j. omega (arith, place_fewer (here at) (small at) at.facts place x j))
      (λ y j. omega (arith, step_fewer (here at) (small at) at.facts e y j))
  direct_fewer at (M.Loop starts guard test m) r h =
      three_case r (λ z. direct_nodes z < start_nodes starts + nodes guard + nodes test) (λ x y z. M.Loop x y z m) starts guard
      test (start_step (here at) at.facts starts) (first_step (f (inner starts at)) [] guard)
      (first_step (f (inner starts at)) (Whole guard ∷ []) test) h
      (λ x j. omega (arith, start_fewer (here at) (small at) at.facts starts x j))
      (λ y j. omega (arith, step_fewer (f (inner starts at)) (shrinks (inner starts at)) [] guard y j))
      (λ z j. omega (arith, step_fewer (f (inner starts at)) (shrinks (inner starts at)) (Whole guard ∷ []) test z j))
  direct_fewer at (M.Call g es) r h =
      one_case r (λ z. direct_nodes z < list_nodes es) (λ xs. M.Call g xs) _ h
      (λ x j. list_fewer (here at) (small at) at.facts es x j)
  direct_fewer at _ r h = absurd cc

  same_steps : (at : Point) (n k : ℕ) (m : Mon) → direct_nodes m ≤ n → direct_nodes m ≤ k →
      direct_steps f at n m ≡ direct_steps f at k m
  same_steps at zero zero m h i = refl
  same_steps at zero (suc k) m h i = sym (no_step at k m h)
    where
      no_step : (at : Point) (k : ℕ) (m : Mon) → direct_nodes m ≤ zero →
          more (direct_step f at m) (λ x. direct_steps f at k x) ≡ []
      no_step at k m h = by_step (direct_step f at m) refl
        where
          by_step : (o : Option Mon) → direct_step f at m ≡ o → more o (λ x. direct_steps f at k x) ≡ []
          by_step None e = refl
          by_step (Some x) e = absurd (omega (arith, direct_fewer at m x e, h))
  same_steps at (suc n) zero m h i = by_step (direct_step f at m) refl
    where
      by_step : (o : Option Mon) → direct_step f at m ≡ o → more o (λ x. direct_steps f at n x) ≡ []
      by_step None e = refl
      by_step (Some x) e = absurd (omega (arith, direct_fewer at m x e, i))
  same_steps at (suc n) (suc k) m h i =
      by_step (direct_step f at m) refl (λ x j. same_steps at n k x (omega (arith, j, h)) (omega (arith, j, i)))
    where
      by_step : (o : Option Mon) → direct_step f at m ≡ o →
          ((x : Mon) → direct_nodes x < direct_nodes m → direct_steps f at n x ≡ direct_steps f at k x) →
          more o (λ x. direct_steps f at n x) ≡ more o (λ x. direct_steps f at k x)
      by_step None e r = refl
      by_step (Some x) e r = ap (λ xs. x ∷ xs) (r x (direct_fewer at m x e))

  -- Steps are made until none can be.
  pub steps_go_on : (at : Point) (m : Mon) →
      direct_steps f at (direct_nodes m) m ≡ more (direct_step f at m) (λ x. direct_steps f at (direct_nodes x) x)
  steps_go_on at m =
      same_steps at (direct_nodes m) (suc (direct_nodes m)) m (omega arith) (omega arith) ∙ by_step (direct_step f at m) refl
    where
      by_step : (o : Option Mon) → direct_step f at m ≡ o →
          more o (λ x. direct_steps f at (direct_nodes m) x) ≡ more o (λ x. direct_steps f at (direct_nodes x) x)
      by_step None e = refl
      by_step (Some x) e =
          ap (λ xs. x ∷ xs)
          (same_steps at (direct_nodes m) (direct_nodes x) x (omega (arith, direct_fewer at m x e)) (omega arith))

  -- and then none can be
  pub steps_end : (at : Point) (n : ℕ) (m : Mon) → direct_nodes m ≤ n →
      direct_step f at (last_of m (direct_steps f at n m)) ≡ None
  steps_end at zero m h = by_step (direct_step f at m) refl
    where
      by_step : (o : Option Mon) → direct_step f at m ≡ o → o ≡ None
      by_step None e = refl
      by_step (Some x) e = absurd (omega (arith, direct_fewer at m x e, h))
  steps_end at (suc n) m h = by_step (direct_step f at m) refl (λ x j. steps_end at n x (omega (arith, j, h)))
    where
      by_step : (o : Option Mon) → direct_step f at m ≡ o →
          ((x : Mon) → direct_nodes x < direct_nodes m → direct_step f at (last_of x (direct_steps f at n x)) ≡ None) →
          direct_step f at (last_of m (more o (λ x. direct_steps f at n x))) ≡ None
      by_step None e r = e
      by_step (Some x) e r = r x (direct_fewer at m x e)
