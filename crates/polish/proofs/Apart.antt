-- What a step is made in is the same but for one place.
use Rattle.std.proofs.Common.{◌≡◌, List, [], ◌∷◌, ◌++◌, Some, inl, inr, refl, ap}
use Rattle.expression_lang.specs.Expression.{Exp, Var, WordLit, NumberLit, TruthLit, WordBinary, WordShift, WordUnary, WordCompare, Cast, ToNat, ToInt, ToWord, Arith, Negate, Lt, Le, Between, Eq, And, Or, Imp, Not, If, Padd, At, Load, Read, Tagged, PtrOk, Global, Sel, Upd, Path, Here, IntoField, IntoElement}
use Rattle.expression_lang.specs.Sort.{Scope}
use Rattle.ac_expr.specs.Fact.{Fact, Whole, NotTrue}
use Rattle.ac_expr.specs.Heads.{hole, path_children, path_head}
use Rattle.ac_expr.specs.Step.{IsStep, OneStepApart, shorter, inside, OneOfThem, this, later, at_each}
use Rattle.monad_lang.specs.Program as M
use Rattle.monad_lang.specs.Program.{Mon, Place, Start}
use Rattle.monad_lang.specs.Run.{start_names}
use Rattle.program_facts.specs.Places.{place_children, place_head}
use Rattle.rule_eq.specs.Rule.{Point}
use Rattle.rule_eq.specs.Table.{ExpApart, within}
use Rattle.rule_parts.specs.Starts.{start_exps}
use Rattle.expression_steps.specs.Rewritten.{Choice, first_step, path_step, list_step, start_step, place_step}
use Rattle.polish.specs.Direct.{direct_step}
use Rattle.polish.proofs.Cases.{first_case, one_case, two_case, three_case}

-- what stands in an expression's place is made of it by one step
abbrev pub MakesSteps : (Scope → Choice) → Type 0
MakesSteps f = (g : Scope) (fs : List Fact) (a b : Exp) → f g fs a ≡ Some b → IsStep g fs a b

module _ (f : Scope → Choice) (steps : MakesSteps f) where
  module _ (g : Scope) where
    mutual
      pub apart : (fs : List Fact) (a r : Exp) → first_step (f g) fs a ≡ Some r → OneStepApart g fs a r
      apart fs (Var x) r h = shorter (steps g fs (Var x) r h)
      apart fs (WordLit w) r h = shorter (steps g fs (WordLit w) r h)
      apart fs (NumberLit n) r h = shorter (steps g fs (NumberLit n) r h)
      apart fs (TruthLit b) r h = shorter (steps g fs (TruthLit b) r h)
      apart fs (WordBinary op a b) r h =
          first_case r (λ q. OneStepApart g fs (WordBinary op a b) q) _ _ h
          (λ i. shorter (steps g fs (WordBinary op a b) r i))
          (λ i.
          two_case r (λ q. OneStepApart g fs (WordBinary op a b) q) (λ x y. WordBinary op x y) a b _ _ i
          (λ x j. inside refl (this (apart fs a x j))) (λ y j. inside refl (later (this (apart fs b y j)))))
      apart fs (WordShift op a n) r h =
          first_case r (λ q. OneStepApart g fs (WordShift op a n) q) _ _ h
          (λ i. shorter (steps g fs (WordShift op a n) r i))
          (λ i.
          two_case r (λ q. OneStepApart g fs (WordShift op a n) q) (λ x y. WordShift op x y) a n _ _ i
          (λ x j. inside refl (this (apart fs a x j))) (λ y j. inside refl (later (this (apart fs n y j)))))
      apart fs (WordUnary op a) r h =
          first_case r (λ q. OneStepApart g fs (WordUnary op a) q) _ _ h
          (λ i. shorter (steps g fs (WordUnary op a) r i))
          (λ i. one_case r (λ q. OneStepApart g fs (WordUnary op a) q) _ _ i (λ x j. inside refl (this (apart fs a x j))))
      apart fs (WordCompare op a b) r h =
          first_case r (λ q. OneStepApart g fs (WordCompare op a b) q) _ _ h
          (λ i. shorter (steps g fs (WordCompare op a b) r i))
          (λ i.
          two_case r (λ q. OneStepApart g fs (WordCompare op a b) q) (λ x y. WordCompare op x y) a b _ _ i
          (λ x j. inside refl (this (apart fs a x j))) (λ y j. inside refl (later (this (apart fs b y j)))))
      apart fs (Cast op width a) r h =
          first_case r (λ q. OneStepApart g fs (Cast op width a) q) _ _ h
          (λ i. shorter (steps g fs (Cast op width a) r i))
          (λ i. one_case r (λ q. OneStepApart g fs (Cast op width a) q) _ _ i (λ x j. inside refl (this (apart fs a x j))))
      apart fs (ToNat a) r h =
          first_case r (λ q. OneStepApart g fs (ToNat a) q) _ _ h (λ i. shorter (steps g fs (ToNat a) r i))
          (λ i. one_case r (λ q. OneStepApart g fs (ToNat a) q) _ _ i (λ x j. inside refl (this (apart fs a x j))))
      apart fs (ToInt a) r h =
          first_case r (λ q. OneStepApart g fs (ToInt a) q) _ _ h (λ i. shorter (steps g fs (ToInt a) r i))
          (λ i. one_case r (λ q. OneStepApart g fs (ToInt a) q) _ _ i (λ x j. inside refl (this (apart fs a x j))))
      apart fs (ToWord width a) r h =
          first_case r (λ q. OneStepApart g fs (ToWord width a) q) _ _ h
          (λ i. shorter (steps g fs (ToWord width a) r i))
          (λ i. one_case r (λ q. OneStepApart g fs (ToWord width a) q) _ _ i (λ x j. inside refl (this (apart fs a x j))))
      apart fs (Arith op a b) r h =
          first_case r (λ q. OneStepApart g fs (Arith op a b) q) _ _ h (λ i. shorter (steps g fs (Arith op a b) r i))
          (λ i.
          two_case r (λ q. OneStepApart g fs (Arith op a b) q) (λ x y. Arith op x y) a b _ _ i
          (λ x j. inside refl (this (apart fs a x j))) (λ y j. inside refl (later (this (apart fs b y j)))))
      apart fs (Negate a) r h =
          first_case r (λ q. OneStepApart g fs (Negate a) q) _ _ h (λ i. shorter (steps g fs (Negate a) r i))
          (λ i. one_case r (λ q. OneStepApart g fs (Negate a) q) _ _ i (λ x j. inside refl (this (apart fs a x j))))
      apart fs (Lt a b) r h =
          first_case r (λ q. OneStepApart g fs (Lt a b) q) _ _ h (λ i. shorter (steps g fs (Lt a b) r i))
          (λ i.
          two_case r (λ q. OneStepApart g fs (Lt a b) q) (λ x y. Lt x y) a b _ _ i
          (λ x j. inside refl (this (apart fs a x j))) (λ y j. inside refl (later (this (apart fs b y j)))))
      apart fs (Le a b) r h =
          first_case r (λ q. OneStepApart g fs (Le a b) q) _ _ h (λ i. shorter (steps g fs (Le a b) r i))
          (λ i.
          two_case r (λ q. OneStepApart g fs (Le a b) q) (λ x y. Le x y) a b _ _ i
          (λ x j. inside refl (this (apart fs a x j))) (λ y j. inside refl (later (this (apart fs b y j)))))
      apart fs (Between low a high) r h =
          first_case r (λ q. OneStepApart g fs (Between low a high) q) _ _ h
          (λ i. shorter (steps g fs (Between low a high) r i))
          (λ i.
          one_case r (λ q. OneStepApart g fs (Between low a high) q) _ _ i (λ x j. inside refl (this (apart fs a x j))))
      apart fs (Eq a b) r h =
          first_case r (λ q. OneStepApart g fs (Eq a b) q) _ _ h (λ i. shorter (steps g fs (Eq a b) r i))
          (λ i.
          two_case r (λ q. OneStepApart g fs (Eq a b) q) (λ x y. Eq x y) a b _ _ i
          (λ x j. inside refl (this (apart fs a x j))) (λ y j. inside refl (later (this (apart fs b y j)))))
      apart fs (And a b) r h =
          first_case r (λ q. OneStepApart g fs (And a b) q) _ _ h (λ i. shorter (steps g fs (And a b) r i))
          (λ i.
          two_case r (λ q. OneStepApart g fs (And a b) q) (λ x y. And x y) a b _ _ i
          (λ x j. inside refl (this (apart fs a x j)))
          (λ y j. inside refl (later (this (apart (Whole a ∷ fs) b y j)))))
      apart fs (Or a b) r h =
          first_case r (λ q. OneStepApart g fs (Or a b) q) _ _ h (λ i. shorter (steps g fs (Or a b) r i))
          (λ i.
          two_case r (λ q. OneStepApart g fs (Or a b) q) (λ x y. Or x y) a b _ _ i
          (λ x j. inside refl (this (apart fs a x j)))
          (λ y j. inside refl (later (this (apart (NotTrue a ∷ fs) b y j)))))
      apart fs (Imp a b) r h =
          first_case r (λ q. OneStepApart g fs (Imp a b) q) _ _ h (λ i. shorter (steps g fs (Imp a b) r i))
          (λ i.
          two_case r (λ q. OneStepApart g fs (Imp a b) q) (λ x y. Imp x y) a b _ _ i
          (λ x j. inside refl (this (apart fs a x j)))
          (λ y j. inside refl (later (this (apart (Whole a ∷ fs) b y j)))))
      apart fs (Not a) r h =
          first_case r (λ q. OneStepApart g fs (Not a) q) _ _ h (λ i. shorter (steps g fs (Not a) r i))
          (λ i. one_case r (λ q. OneStepApart g fs (Not a) q) _ _ i (λ x j. inside refl (this (apart fs a x j))))
      apart fs (If c a b) r h =
          first_case r (λ q. OneStepApart g fs (If c a b) q) _ _ h (λ i. shorter (steps g fs (If c a b) r i))
          (λ i.
          three_case r (λ q. OneStepApart g fs (If c a b) q) (λ x y z. If x y z) c a b _ _ _ i
          (λ x j. inside refl (this (apart fs c x j)))
          (λ y j. inside refl (later (this (apart (Whole c ∷ fs) a y j))))
          (λ z j.
          inside refl
          (later (later (this (apart (NotTrue c ∷ fs) b z j))))))
      apart fs (Padd t p n) r h =
          first_case r (λ q. OneStepApart g fs (Padd t p n) q) _ _ h (λ i. shorter (steps g fs (Padd t p n) r i))
          (λ i.
          two_case r (λ q. OneStepApart g fs (Padd t p n) q) (λ x y. Padd t x y) p n _ _ i
          (λ x j. inside refl (this (apart fs p x j))) (λ y j. inside refl (later (this (apart fs n y j)))))
      apart fs (At t p path) r h =
          first_case r (λ q. OneStepApart g fs (At t p path) q) _ _ h (λ i. shorter (steps g fs (At t p path) r i))
          (λ i.
          two_case r (λ q. OneStepApart g fs (At t p path) q) (λ x y. At t x y) p path _ _ i
          (λ x j. inside refl (this (apart fs p x j)))
          (λ y j. let k = path_apart fs path y j in inside (ap (λ w. At t hole w) k.0) (later k.1)))
      apart fs (Load t p path) r h =
          first_case r (λ q. OneStepApart g fs (Load t p path) q) _ _ h
          (λ i. shorter (steps g fs (Load t p path) r i))
          (λ i.
          two_case r (λ q. OneStepApart g fs (Load t p path) q) (λ x y. Load t x y) p path _ _ i
          (λ x j. inside refl (this (apart fs p x j)))
          (λ y j. let k = path_apart fs path y j in inside (ap (λ w. Load t hole w) k.0) (later k.1)))
      apart fs (Read t p path) r h =
          first_case r (λ q. OneStepApart g fs (Read t p path) q) _ _ h
          (λ i. shorter (steps g fs (Read t p path) r i))
          (λ i.
          two_case r (λ q. OneStepApart g fs (Read t p path) q) (λ x y. Read t x y) p path _ _ i
          (λ x j. inside refl (this (apart fs p x j)))
          (λ y j. let k = path_apart fs path y j in inside (ap (λ w. Read t hole w) k.0) (later k.1)))
      apart fs (Tagged t p) r h =
          first_case r (λ q. OneStepApart g fs (Tagged t p) q) _ _ h (λ i. shorter (steps g fs (Tagged t p) r i))
          (λ i. one_case r (λ q. OneStepApart g fs (Tagged t p) q) _ _ i (λ x j. inside refl (this (apart fs p x j))))
      apart fs (PtrOk t p) r h =
          first_case r (λ q. OneStepApart g fs (PtrOk t p) q) _ _ h (λ i. shorter (steps g fs (PtrOk t p) r i))
          (λ i. one_case r (λ q. OneStepApart g fs (PtrOk t p) q) _ _ i (λ x j. inside refl (this (apart fs p x j))))
      apart fs (Global x path) r h =
          first_case r (λ q. OneStepApart g fs (Global x path) q) _ _ h
          (λ i. shorter (steps g fs (Global x path) r i))
          (λ i.
          one_case r (λ q. OneStepApart g fs (Global x path) q) _ _ i
          (λ y j. let k = path_apart fs path y j in inside (ap (λ w. Global x w) k.0) k.1))
      apart fs (Sel e path) r h = shorter (steps g fs (Sel e path) r h)
      apart fs (Upd e path v) r h = shorter (steps g fs (Upd e path v) r h)

      pub path_apart : (fs : List Fact) (path r : Path) → path_step (f g) fs path ≡ Some r →
          (path_head r ≡ path_head path) × OneOfThem g (at_each fs (path_children path)) (path_children path) (path_children r)
      path_apart fs Here r h = absurd cc
      path_apart fs (IntoField k path) r h =
          one_case r
          (λ q.
          (path_head q ≡ path_head (IntoField k path)) × OneOfThem g (at_each fs (path_children path)) (path_children path)
          (path_children q))
          _ _ h
          (λ y j. let i = path_apart fs path y j in (ap (λ w. IntoField k w) i.0, i.1))
      path_apart fs (IntoElement e path) r h =
          two_case r
          (λ q.
          (path_head q ≡ path_head (IntoElement e path)) × OneOfThem g (fs ∷ at_each fs (path_children path))
          (e ∷ path_children path) (path_children q))
          (λ x y. IntoElement x y) e path _ _ h
          (λ x j. (refl, this (apart fs e x j)))
          (λ y j. let i = path_apart fs path y j in (ap (λ w. IntoElement hole w) i.0, later i.1))

    pub list_apart : (fs : List Fact) (es r : List Exp) → list_step (f g) fs es ≡ Some r →
        OneOfThem g (at_each fs es) es r
    list_apart fs [] r h = absurd cc
    list_apart fs (e ∷ es) r h =
        two_case r (λ q. OneOfThem g (fs ∷ at_each fs es) (e ∷ es) q) (λ x xs. x ∷ xs) e es _ _ h
        (λ x j. this (apart fs e x j)) (λ y j. later (list_apart fs es y j))

    pub start_apart : (fs : List Fact) (ss r : List Start) → start_step (f g) fs ss ≡ Some r →
        (start_names r ≡ start_names ss) × OneOfThem g (at_each fs (start_exps ss)) (start_exps ss) (start_exps r)
    start_apart fs [] r h = absurd cc
    start_apart fs (s ∷ ss) r h =
        two_case r
        (λ q.
        (start_names q ≡ start_names (s ∷ ss)) × OneOfThem g (fs ∷ at_each fs (start_exps ss)) (s.exp ∷ start_exps ss)
        (start_exps q))
        (λ x xs. record { name = s.name; exp = x } ∷ xs) s.exp ss _ _ h
        (λ x j. (refl, this (apart fs s.exp x j)))
        (λ y j. let i = start_apart fs ss y j in (ap (λ xs. s.name ∷ xs) i.0, later i.1))

    -- with other expressions behind
    path_before : (fs : List Fact) (path r : Path) (es : List Exp) → path_step (f g) fs path ≡ Some r →
        OneOfThem g (at_each fs (path_children path ++ es)) (path_children path ++ es) (path_children r ++ es)
    path_before fs Here r es h = absurd cc
    path_before fs (IntoField k path) r es h =
        one_case r (λ q. OneOfThem g (at_each fs (path_children path ++ es)) (path_children path ++ es)
        (path_children q ++ es)) _
        _ h (λ y j. path_before fs path y es j)
    path_before fs (IntoElement e path) r es h =
        two_case r
        (λ q. OneOfThem g (fs ∷ at_each fs (path_children path ++ es)) (e ∷ (path_children path ++ es)) (path_children q ++ es))
        (λ x y. IntoElement x y) e path _ _ h
        (λ x j. this (apart fs e x j)) (λ y j. later (path_before fs path y es j))

    last_apart : (fs : List Fact) (es : List Exp) (a b : Exp) → OneStepApart g fs a b →
        OneOfThem g (at_each fs (es ++ (a ∷ []))) (es ++ (a ∷ [])) (es ++ (b ∷ []))
    last_apart fs [] a b h = this h
    last_apart fs (e ∷ es) a b h = later (last_apart fs es a b h)

    abbrev PlaceApart : List Fact → Place → List Exp → Place → Type 0
    PlaceApart fs place es r =
        (place_head r ≡ place_head place) × OneOfThem g (at_each fs (place_children place ++ es)) (place_children place ++ es)
        (place_children r ++ es)

    pub place_apart : (fs : List Fact) (place r : Place) (es : List Exp) → place_step (f g) fs place ≡ Some r →
        PlaceApart fs place es r
    place_apart fs (M.Stored t p path) r es h =
        two_case r (λ q. PlaceApart fs (M.Stored t p path) es q) (λ x y. M.Stored t x y) p path _ _ h
        (λ x j. (refl, this (apart fs p x j)))
        (λ y j. (ap (λ w. M.Stored t hole w) (path_apart fs path y j).0, later (path_before fs path y es j)))
    place_apart fs (M.Written t p path) r es h =
        two_case r (λ q. PlaceApart fs (M.Written t p path) es q) (λ x y. M.Written t x y) p path _ _ h
        (λ x j. (refl, this (apart fs p x j)))
        (λ y j. (ap (λ w. M.Written t hole w) (path_apart fs path y j).0, later (path_before fs path y es j)))
    place_apart fs (M.Global x path) r es h =
        one_case r (λ q. PlaceApart fs (M.Global x path) es q) _ _ h
        (λ y j. (ap (λ w. M.Global x w) (path_apart fs path y j).0, path_before fs path y es j))

  -- in the expressions that stand in a program directly
  pub direct_apart : (at : Point) (m r : Mon) →
      direct_step f at m ≡ Some r → ExpApart at m r
  direct_apart at (M.Ret es) r h =
      one_case r (λ q. ExpApart at (M.Ret es) q) _ _ h (λ x j. list_apart at.setting.scope at.facts es x j)
  direct_apart at (M.Guard e) r h =
      one_case r (λ q. ExpApart at (M.Guard e) q) _ _ h (λ x j. apart at.setting.scope at.facts e x j)
  direct_apart at (M.If e m n) r h =
      one_case r (λ q. ExpApart at (M.If e m n) q) _ _ h (λ x j. (refl, refl, apart at.setting.scope at.facts e x j))
  direct_apart at (M.Write place e) r h =
      two_case r (λ q. ExpApart at (M.Write place e) q) (λ x y. M.Write x y) place e _ _ h
      (λ x j. place_apart at.setting.scope at.facts place x (e ∷ []) j)
      (λ y j. (
        refl,
        last_apart at.setting.scope at.facts (place_children place) e y
            (apart at.setting.scope at.facts e y j),
      ))
  direct_apart at (M.Loop starts guard test m) r h =
      three_case r (λ q. ExpApart at (M.Loop starts guard test m) q) (λ x y z. M.Loop x y z m) starts guard test _ _ _ h
      (λ x j. let i = start_apart at.setting.scope at.facts starts x j in (refl, inl (i.0, refl, refl, i.1)))
      (λ y j. (refl, inr (inl (refl, refl, apart (within starts [] at).setting.scope [] guard y j))))
      (λ z j. (
        refl,
        inr
            (inr (
              refl,
              refl,
              apart (within starts (Whole guard ∷ []) at).setting.scope (Whole guard ∷ []) test z j,
            )),
      ))
  direct_apart at (M.Call g es) r h =
      one_case r (λ q. ExpApart at (M.Call g es) q) _ _ h (λ x j. (refl, list_apart at.setting.scope at.facts es x j))
  direct_apart at _ r h = absurd cc
