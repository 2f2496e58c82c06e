-- The guard of an operation gives what the operation stands for, wherever it stands behind the guard, under the conditions that
-- the guard names, and however many guards are between.
use Rattle.std.proofs.Common.{◌≡◌, Bool, true, false, cond, ◌||◌, List, [], ◌∷◌, ◌++◌, map, Option, Some, None, ◌⊎◌, inl, inr, refl, ap, ◌∙◌}
use Rattle.std.proofs.lemmas.Bool.{or_left, or_right}
use Rattle.expression_lang.specs.Expression as X
use Rattle.expression_lang.specs.Expression.{Exp}
use Rattle.expression_lang.specs.Sort.{Scope}
use Rattle.expression_lang.specs.Signature.{Binder}
use Rattle.ac_expr.specs.Fact.{Fact, Whole, stands_for}
use Rattle.rule_word.specs.Table.{truth}
use Rattle.rule_word.specs.Bases.{Surroundings, under, among, Base, Naturals, Integers, or_else, gives_at_once, some_gives, range_given, first_range, oldest_range}
use Rattle.rule_word.specs.WordsAbstracted.{abstracted}
use Rattle.rule_word.proofs.BasesKnown.{range_stays}
use Rattle.rule_word.proofs.AbstractedStays.{oldest_alike}

-- under conditions, the first outermost
abbrev pub under_all : List Exp → Exp → Exp
under_all [] e = e
under_all (c ∷ cs) e = X.Imp c (under_all cs e)

module _ (same : Exp → Exp → Bool) (finds : (e : Exp) → same e e ≡ true) (g : Scope) (names : List Binder) where
  -- what a test becomes
  abbrev pub become : Surroundings → Exp → Exp
  become k e = (abstracted same true g names k e truth).right

  abbrev pub under_each : Surroundings → List Exp → Surroundings
  under_each k [] = k
  under_each k (c ∷ cs) = under_each (under (Whole (become k c)) k) cs

  itself : (e : Exp) → gives_at_once same e e ≡ true
  itself (X.And a b) = or_left _ _ (or_left _ _ (finds (X.And a b)))
  itself (X.Between low x high) = or_left _ _ (or_left _ _ (finds (X.Between low x high)))
  itself e = finds e

  still_given : (k : Surroundings) (cs : List Exp) (e : Exp) → some_gives same k.conditions e ≡ true → some_gives same (under_each k cs).conditions e ≡ true
  still_given k [] e h = h
  still_given k (c ∷ cs) e h = still_given (under (Whole (become k c)) k) cs e (or_right (gives_at_once same (become k c) e) _ h)

  -- each condition is given under them all
  abbrev AllGiven : List Fact → Surroundings → List Exp → Type 0
  AllGiven before k [] = Unit {0}
  AllGiven before k (c ∷ cs) = (some_gives same before (become k c) ≡ true) × AllGiven before (under (Whole (become k c)) k) cs

  all_given : (before : List Fact) (k : Surroundings) (cs : List Exp) → ((e : Exp) → some_gives same (under_each k cs).conditions e ≡ true → some_gives same before e ≡ true) → AllGiven before k cs
  all_given before k [] h = tt
  all_given before k (c ∷ cs) h = (
    h (become k c) (still_given (under (Whole (become k c)) k) cs (become k c) (or_left _ _ (itself (become k c)))),
    all_given before (under (Whole (become k c)) k) cs h,
  )

  module _ (natural integer : Exp) where
    imps_give : (before : List Fact) (k : Surroundings) (cs : List Exp) (e : Exp) → AllGiven before k cs →
        range_given same before natural integer (become k (under_all cs e)) ≡ range_given same before natural integer (become (under_each k cs) e)
    imps_give before k [] e h = refl
    imps_give before k (c ∷ cs) e h =
        ap (λ b. cond b (range_given same before natural integer (become (under (Whole (become k c)) k) (under_all cs e))) None) h.0
        ∙ imps_give before (under (Whole (become k c)) k) cs e h.1

    by_first : (before : List Fact) (k : Surroundings) (cs : List Exp) (low : _) (r : Exp) (high : _) →
        first_range same before natural integer (become k (under_all cs (X.Between low r high))) ≡ range_given same before natural integer (become k (under_all cs (X.Between low r high)))
    by_first before k [] low r high = refl
    by_first before k (c ∷ cs) low r high = refl

    either_range : (fact : Exp) → (same fact natural ≡ true) ⊎ (same fact integer ≡ true) → (b : Base) × (cond (same fact natural) (Some Naturals) (cond (same fact integer) (Some Integers) None) ≡ Some b)
    either_range fact (inl h) = (Naturals, ap (λ t. cond t (Some Naturals) (cond (same fact integer) (Some Integers) None)) h)
    either_range fact (inr h) = by_natural (same fact natural)
      where
        by_natural : (t : Bool) → (b : Base) × (cond t (Some Naturals) (cond (same fact integer) (Some Integers) None) ≡ Some b)
        by_natural true = (Naturals, refl)
        by_natural false = (Integers, ap (λ t. cond t (Some Integers) None) h)

    one_found : (o r : Option Base) (b : Base) → r ≡ Some b → (c : Base) × (or_else o r ≡ Some c)
    one_found (Some c) r b h = (c, refl)
    one_found None r b h = (b, h)

    -- a guard among the facts gives a range, under the conditions that it names
    pub range_there : (older newer : List Fact) (cs : List Exp) (low : _) (r : Exp) (high : _) (k : Surroundings) →
        map stands_for k.conditions ≡ map stands_for (under_each (among older) cs).conditions →
        k.facts ≡ newer ++ (Whole (become (among older) (under_all cs (X.Between low r high))) ∷ older) →
        (same (become (under_each (among older) cs) (X.Between low r high)) natural ≡ true) ⊎ (same (become (under_each (among older) cs) (X.Between low r high)) integer ≡ true) →
        (b : Base) × (oldest_range same k.conditions natural integer k.facts ≡ Some b)
    range_there older newer cs low r high k alike facts h =
        let e = X.Between low r high in
        let conditions = (under_each (among older) cs).conditions in
        let guard = become (among older) (under_all cs e) in
        let before = conditions ++ older in
        let given = all_given before (among older) cs (λ x i. first_ones conditions older x i) in
        let b = either_range (become (under_each (among older) cs) e) h in
        let here : first_range same before natural integer guard ≡ Some b.0 = by_first before (among older) cs low r high ∙ imps_give before (among older) cs e given ∙ b.1 in
        let c = one_found (oldest_range same conditions natural integer older) (first_range same before natural integer guard) b.0 here in (
          c.0,
          ap (λ fs. oldest_range same k.conditions natural integer fs) facts
              ∙ oldest_alike same natural integer k.conditions conditions (newer ++ (Whole guard ∷ older)) alike
              ∙ range_stays same conditions natural integer newer (Whole guard ∷ older) c.0 c.1,
        )
      where
        first_ones : (cs fs : List Fact) (x : Exp) → some_gives same cs x ≡ true → some_gives same (cs ++ fs) x ≡ true
        first_ones [] fs x i = absurd cc
        first_ones (c ∷ cs) fs x i = either (gives_at_once same (stands_for c) x) (some_gives same cs x) i (first_ones cs fs x)
          where
            either : (p q : Bool) → (p || q) ≡ true → (q ≡ true → some_gives same (cs ++ fs) x ≡ true) → (p || some_gives same (cs ++ fs) x) ≡ true
            either true q i rest = refl
            either false q i rest = rest i
