-- Where no part of an expression passes a test of heads, none of what a step makes of it does.
use Rattle.std.proofs.Common.{◌≡◌, Bool, false, ◌||◌, List, ◌∷◌, Some, refl, ap, ◌∙◌}
use Rattle.std.proofs.lemmas.Bool.{or_parts, or_from}
use Rattle.expression_lang.specs.Expression.{Exp, Var, WordLit, NumberLit, TruthLit, WordBinary, WordShift, WordUnary, WordCompare, Cast, ToNat, ToInt, ToWord, Arith, Negate, Lt, Le, Between, Eq, And, Or, Imp, Not, If, Padd, At, Load, Read, Tagged, PtrOk, Global, Sel, Upd, Path, Here, IntoField, IntoElement}
use Rattle.expression_lang.specs.Form.{has, path_has}
use Rattle.ac_expr.specs.Fact.{Fact, Whole, NotTrue}
use Rattle.ac_expr.specs.Heads.{head, path_head, hole}
use Rattle.expression_steps.specs.Rewritten.{Choice, first_step, path_step}
use Rattle.polish.proofs.Cases.{first_case, one_case, two_case, three_case}

pub one_free : (t t' a a' : Bool) → t' ≡ t → (t || a) ≡ false → (a ≡ false → a' ≡ false) → (t' || a') ≡ false
one_free t t' a a' e h k = let p = or_parts t a h in or_from t' a' (e ∙ p.0) (k p.1)

pub two_free : (t t' a a' b b' : Bool) → t' ≡ t → ((t || a) || b) ≡ false → (a ≡ false → a' ≡ false) → (b ≡ false → b' ≡ false) →
    ((t' || a') || b') ≡ false
two_free t t' a a' b b' e h k m = let p = or_parts (t || a) b h in or_from (t' || a') b' (one_free t t' a a' e p.0 k) (m p.1)

pub three_free : (t t' a a' b b' c c' : Bool) → t' ≡ t → (((t || a) || b) || c) ≡ false → (a ≡ false → a' ≡ false) →
    (b ≡ false → b' ≡ false) → (c ≡ false → c' ≡ false) → (((t' || a') || b') || c') ≡ false
three_free t t' a a' b b' c c' e h k m n =
    let p = or_parts ((t || a) || b) c h in or_from ((t' || a') || b') c' (two_free t t' a a' b b' e p.0 k m) (n p.1)

-- what stands in an expression's place has no part that passes the test, where that has none
abbrev pub KeepsFree : (Exp → Bool) → Choice → Type 0
KeepsFree test f = (fs : List Fact) (a b : Exp) → f fs a ≡ Some b → has test a ≡ false → has test b ≡ false

module _ (test : Exp → Bool) (alike : (a b : Exp) → head b ≡ head a → test b ≡ test a) (f : Choice) (free : KeepsFree test f)
  where
    mutual
      pub step_has : (fs : List Fact) (a r : Exp) → first_step f fs a ≡ Some r → has test a ≡ false → has test r ≡ false
      step_has fs (Var x) r h c = free fs (Var x) r h c
      step_has fs (WordLit w) r h c = free fs (WordLit w) r h c
      step_has fs (NumberLit n) r h c = free fs (NumberLit n) r h c
      step_has fs (TruthLit b) r h c = free fs (TruthLit b) r h c
      step_has fs (WordBinary op a b) r h c =
          first_case r (λ z. has test z ≡ false) _ _ h (λ i. free fs (WordBinary op a b) r i c)
          (λ i.
          two_case r (λ z. has test z ≡ false) (λ x y. WordBinary op x y) a b _ _ i
          (λ x j. two_free _ _ _ _ _ _ (alike (WordBinary op a b) (WordBinary op x b) refl) c (step_has fs a x j) (λ k. k))
          (λ y j. two_free _ _ _ _ _ _ (alike (WordBinary op a b) (WordBinary op a y) refl) c (λ k. k) (step_has fs b y j)))
      step_has fs (WordShift op a n) r h c =
          first_case r (λ z. has test z ≡ false) _ _ h (λ i. free fs (WordShift op a n) r i c)
          (λ i.
          two_case r (λ z. has test z ≡ false) (λ x y. WordShift op x y) a n _ _ i
          (λ x j. two_free _ _ _ _ _ _ (alike (WordShift op a n) (WordShift op x n) refl) c (step_has fs a x j) (λ k. k))
          (λ y j. two_free _ _ _ _ _ _ (alike (WordShift op a n) (WordShift op a y) refl) c (λ k. k) (step_has fs n y j)))
      step_has fs (WordUnary op a) r h c =
          first_case r (λ z. has test z ≡ false) _ _ h (λ i. free fs (WordUnary op a) r i c)
          (λ i.
          one_case r (λ z. has test z ≡ false) (λ x. WordUnary op x) _ i
          (λ x j. one_free _ _ _ _ (alike (WordUnary op a) (WordUnary op x) refl) c (step_has fs a x j)))
      step_has fs (WordCompare op a b) r h c =
          first_case r (λ z. has test z ≡ false) _ _ h (λ i. free fs (WordCompare op a b) r i c)
          (λ i.
          two_case r (λ z. has test z ≡ false) (λ x y. WordCompare op x y) a b _ _ i
          (λ x j. two_free _ _ _ _ _ _ (alike (WordCompare op a b) (WordCompare op x b) refl) c (step_has fs a x j) (λ k. k))
          (λ y j. two_free _ _ _ _ _ _ (alike (WordCompare op a b) (WordCompare op a y) refl) c (λ k. k) (step_has fs b y j)))
      step_has fs (Cast op width a) r h c =
          first_case r (λ z. has test z ≡ false) _ _ h (λ i. free fs (Cast op width a) r i c)
          (λ i.
          one_case r (λ z. has test z ≡ false) (λ x. Cast op width x) _ i
          (λ x j. one_free _ _ _ _ (alike (Cast op width a) (Cast op width x) refl) c (step_has fs a x j)))
      step_has fs (ToNat a) r h c =
          first_case r (λ z. has test z ≡ false) _ _ h (λ i. free fs (ToNat a) r i c)
          (λ i.
          one_case r (λ z. has test z ≡ false) (λ x. ToNat x) _ i
          (λ x j. one_free _ _ _ _ (alike (ToNat a) (ToNat x) refl) c (step_has fs a x j)))
      step_has fs (ToInt a) r h c =
          first_case r (λ z. has test z ≡ false) _ _ h (λ i. free fs (ToInt a) r i c)
          (λ i.
          one_case r (λ z. has test z ≡ false) (λ x. ToInt x) _ i
          (λ x j. one_free _ _ _ _ (alike (ToInt a) (ToInt x) refl) c (step_has fs a x j)))
      step_has fs (ToWord width a) r h c =
          first_case r (λ z. has test z ≡ false) _ _ h (λ i. free fs (ToWord width a) r i c)
          (λ i.
          one_case r (λ z. has test z ≡ false) (λ x. ToWord width x) _ i
          (λ x j. one_free _ _ _ _ (alike (ToWord width a) (ToWord width x) refl) c (step_has fs a x j)))
      step_has fs (Arith op a b) r h c =
          first_case r (λ z. has test z ≡ false) _ _ h (λ i. free fs (Arith op a b) r i c)
          (λ i.
          two_case r (λ z. has test z ≡ false) (λ x y. Arith op x y) a b _ _ i
          (λ x j. two_free _ _ _ _ _ _ (alike (Arith op a b) (Arith op x b) refl) c (step_has fs a x j) (λ k. k))
          (λ y j. two_free _ _ _ _ _ _ (alike (Arith op a b) (Arith op a y) refl) c (λ k. k) (step_has fs b y j)))
      step_has fs (Negate a) r h c =
          first_case r (λ z. has test z ≡ false) _ _ h (λ i. free fs (Negate a) r i c)
          (λ i.
          one_case r (λ z. has test z ≡ false) (λ x. Negate x) _ i
          (λ x j. one_free _ _ _ _ (alike (Negate a) (Negate x) refl) c (step_has fs a x j)))
      step_has fs (Lt a b) r h c =
          first_case r (λ z. has test z ≡ false) _ _ h (λ i. free fs (Lt a b) r i c)
          (λ i.
          two_case r (λ z. has test z ≡ false) (λ x y. Lt x y) a b _ _ i
          (λ x j. two_free _ _ _ _ _ _ (alike (Lt a b) (Lt x b) refl) c (step_has fs a x j) (λ k. k))
          (λ y j. two_free _ _ _ _ _ _ (alike (Lt a b) (Lt a y) refl) c (λ k. k) (step_has fs b y j)))
      step_has fs (Le a b) r h c =
          first_case r (λ z. has test z ≡ false) _ _ h (λ i. free fs (Le a b) r i c)
          (λ i.
          two_case r (λ z. has test z ≡ false) (λ x y. Le x y) a b _ _ i
          (λ x j. two_free _ _ _ _ _ _ (alike (Le a b) (Le x b) refl) c (step_has fs a x j) (λ k. k))
          (λ y j. two_free _ _ _ _ _ _ (alike (Le a b) (Le a y) refl) c (λ k. k) (step_has fs b y j)))
      step_has fs (Between low a high) r h c =
          first_case r (λ z. has test z ≡ false) _ _ h (λ i. free fs (Between low a high) r i c)
          (λ i.
          one_case r (λ z. has test z ≡ false) (λ x. Between low x high) _ i
          (λ x j. one_free _ _ _ _ (alike (Between low a high) (Between low x high) refl) c (step_has fs a x j)))
      step_has fs (Eq a b) r h c =
          first_case r (λ z. has test z ≡ false) _ _ h (λ i. free fs (Eq a b) r i c)
          (λ i.
          two_case r (λ z. has test z ≡ false) (λ x y. Eq x y) a b _ _ i
          (λ x j. two_free _ _ _ _ _ _ (alike (Eq a b) (Eq x b) refl) c (step_has fs a x j) (λ k. k))
          (λ y j. two_free _ _ _ _ _ _ (alike (Eq a b) (Eq a y) refl) c (λ k. k) (step_has fs b y j)))
      step_has fs (And a b) r h c =
          first_case r (λ z. has test z ≡ false) _ _ h (λ i. free fs (And a b) r i c)
          (λ i.
          two_case r (λ z. has test z ≡ false) (λ x y. And x y) a b _ _ i
          (λ x j. two_free _ _ _ _ _ _ (alike (And a b) (And x b) refl) c (step_has fs a x j) (λ k. k))
          (λ y j. two_free _ _ _ _ _ _ (alike (And a b) (And a y) refl) c (λ k. k) (step_has (Whole a ∷ fs) b y j)))
      step_has fs (Or a b) r h c =
          first_case r (λ z. has test z ≡ false) _ _ h (λ i. free fs (Or a b) r i c)
          (λ i.
          two_case r (λ z. has test z ≡ false) (λ x y. Or x y) a b _ _ i
          (λ x j. two_free _ _ _ _ _ _ (alike (Or a b) (Or x b) refl) c (step_has fs a x j) (λ k. k))
          (λ y j. two_free _ _ _ _ _ _ (alike (Or a b) (Or a y) refl) c (λ k. k) (step_has (NotTrue a ∷ fs) b y j)))
      step_has fs (Imp a b) r h c =
          first_case r (λ z. has test z ≡ false) _ _ h (λ i. free fs (Imp a b) r i c)
          (λ i.
          two_case r (λ z. has test z ≡ false) (λ x y. Imp x y) a b _ _ i
          (λ x j. two_free _ _ _ _ _ _ (alike (Imp a b) (Imp x b) refl) c (step_has fs a x j) (λ k. k))
          (λ y j. two_free _ _ _ _ _ _ (alike (Imp a b) (Imp a y) refl) c (λ k. k) (step_has (Whole a ∷ fs) b y j)))
      step_has fs (Not a) r h c =
          first_case r (λ z. has test z ≡ false) _ _ h (λ i. free fs (Not a) r i c)
          (λ i.
          one_case r (λ z. has test z ≡ false) (λ x. Not x) _ i
          (λ x j. one_free _ _ _ _ (alike (Not a) (Not x) refl) c (step_has fs a x j)))
      step_has fs (If c' a b) r h c =
          first_case r (λ z. has test z ≡ false) _ _ h (λ i. free fs (If c' a b) r i c)
          (λ i.
          three_case r (λ z. has test z ≡ false) (λ x y z. If x y z) c' a b _ _ _ i
          (λ x j. three_free _ _ _ _ _ _ _ _ (alike (If c' a b) (If x a b) refl) c (step_has fs c' x j) (λ k. k) (λ k. k))
          (λ y j.
          three_free _ _ _ _ _ _ _ _ (alike (If c' a b) (If c' y b) refl) c (λ k. k) (step_has (Whole c' ∷ fs) a y j)
          (λ k. k))
          (λ z j.
          three_free _ _ _ _ _ _ _ _ (alike (If c' a b) (If c' a z) refl) c (λ k. k) (λ k. k)
          (step_has (NotTrue c' ∷ fs) b z j)))
      step_has fs (Padd t p n) r h c =
          first_case r (λ z. has test z ≡ false) _ _ h (λ i. free fs (Padd t p n) r i c)
          (λ i.
          two_case r (λ z. has test z ≡ false) (λ x y. Padd t x y) p n _ _ i
          (λ x j. two_free _ _ _ _ _ _ (alike (Padd t p n) (Padd t x n) refl) c (step_has fs p x j) (λ k. k))
          (λ y j. two_free _ _ _ _ _ _ (alike (Padd t p n) (Padd t p y) refl) c (λ k. k) (step_has fs n y j)))
      step_has fs (At t p path) r h c =
          first_case r (λ z. has test z ≡ false) _ _ h (λ i. free fs (At t p path) r i c)
          (λ i.
          two_case r (λ z. has test z ≡ false) (λ x y. At t x y) p path _ _ i
          (λ x j. two_free _ _ _ _ _ _ (alike (At t p path) (At t x path) refl) c (step_has fs p x j) (λ k. k))
          (λ y j.
          let m = path_has_step fs path y j in
          two_free _ _ _ _ _ _ (alike (At t p path) (At t p y) (ap (λ w. At t hole w) m.0)) c (λ k. k) m.1))
      step_has fs (Load t p path) r h c =
          first_case r (λ z. has test z ≡ false) _ _ h (λ i. free fs (Load t p path) r i c)
          (λ i.
          two_case r (λ z. has test z ≡ false) (λ x y. Load t x y) p path _ _ i
          (λ x j. two_free _ _ _ _ _ _ (alike (Load t p path) (Load t x path) refl) c (step_has fs p x j) (λ k. k))
          (λ y j.
          let m = path_has_step fs path y j in
          two_free _ _ _ _ _ _ (alike (Load t p path) (Load t p y) (ap (λ w. Load t hole w) m.0)) c (λ k. k) m.1))
      step_has fs (Read t p path) r h c =
          first_case r (λ z. has test z ≡ false) _ _ h (λ i. free fs (Read t p path) r i c)
          (λ i.
          two_case r (λ z. has test z ≡ false) (λ x y. Read t x y) p path _ _ i
          (λ x j. two_free _ _ _ _ _ _ (alike (Read t p path) (Read t x path) refl) c (step_has fs p x j) (λ k. k))
          (λ y j.
          let m = path_has_step fs path y j in
          two_free _ _ _ _ _ _ (alike (Read t p path) (Read t p y) (ap (λ w. Read t hole w) m.0)) c (λ k. k) m.1))
      step_has fs (Tagged t p) r h c =
          first_case r (λ z. has test z ≡ false) _ _ h (λ i. free fs (Tagged t p) r i c)
          (λ i.
          one_case r (λ z. has test z ≡ false) (λ x. Tagged t x) _ i
          (λ x j. one_free _ _ _ _ (alike (Tagged t p) (Tagged t x) refl) c (step_has fs p x j)))
      step_has fs (PtrOk t p) r h c =
          first_case r (λ z. has test z ≡ false) _ _ h (λ i. free fs (PtrOk t p) r i c)
          (λ i.
          one_case r (λ z. has test z ≡ false) (λ x. PtrOk t x) _ i
          (λ x j. one_free _ _ _ _ (alike (PtrOk t p) (PtrOk t x) refl) c (step_has fs p x j)))
      step_has fs (Global x path) r h c =
          first_case r (λ z. has test z ≡ false) _ _ h (λ i. free fs (Global x path) r i c)
          (λ i.
          one_case r (λ z. has test z ≡ false) (λ y. Global x y) _ i
          (λ y j.
          let m = path_has_step fs path y j in
          one_free _ _ _ _ (alike (Global x path) (Global x y) (ap (λ w. Global x w) m.0)) c m.1))
      step_has fs (Sel e path) r h c = free fs (Sel e path) r h c
      step_has fs (Upd e path v) r h c = free fs (Upd e path v) r h c

      pub path_has_step : (fs : List Fact) (path r : Path) → path_step f fs path ≡ Some r →
          (path_head r ≡ path_head path) × (path_has test path ≡ false → path_has test r ≡ false)
      path_has_step fs Here r h = absurd cc
      path_has_step fs (IntoField k path) r h =
          one_case r (λ z. (path_head z ≡ path_head (IntoField k path)) × (path_has test path ≡ false → path_has test z ≡ false))
          (λ y. IntoField k y) _ h
          (λ y j. let m = path_has_step fs path y j in (ap (λ w. IntoField k w) m.0, m.1))
      path_has_step fs (IntoElement e path) r h =
          two_case r
          (λ z.
          (path_head z ≡ path_head (IntoElement e path)) ×
          ((has test e || path_has test path) ≡ false → path_has test z ≡ false))
          (λ x y. IntoElement x y) e path _ _ h
          (λ x j. (
            refl,
            λ c.
                let p = or_parts (has test e) (path_has test path) c in
                or_from (has test x) (path_has test path) (step_has fs e x j p.0) p.1,
          ))
          (λ y j.
          let m = path_has_step fs path y j in (
            ap (λ w. IntoElement hole w) m.0,
            λ c. let p = or_parts (has test e) (path_has test path) c in or_from (has test e) (path_has test y) p.0 (m.1 p.1),
          ))
