-- The range of an operation at its base is known.
use Rattle.std.proofs.Common.{◌≡◌, ℕ, Bool, true, false, cond, ◌||◌, List, [], ◌∷◌, ◌++◌, Option, Some, None, ◌⊎◌, inl, inr, refl, sym, subst, ap, ◌∙◌}
use Rattle.std.proofs.lemmas.Bool.{or_cases}
use Rattle.expression_lang.specs.Expression.{Exp, NumberLit, TruthLit, Le, Between, And, Imp}
use Rattle.ac_expr.specs.Fact.{Fact, Whole, stands_for}
use Rattle.ac_expr.specs.Known.{IsKnown, Gives, GivesAtOnce, SomeFact}
use Rattle.rule_word.specs.Bases.{Surroundings, known_there, Base, Words, Naturals, Integers, natural_range, integer_range, gives_at_once, some_gives, or_else, range_given, first_range, oldest_range, or_words, base_in, signed_or_words, signed_base_in}

module _ (same : Exp → Exp → Bool) (is_same : (a b : Exp) → same a b ≡ true → a ≡ b) where
  itself : (fact e : Exp) → same fact e ≡ true → GivesAtOnce fact fact → GivesAtOnce fact e
  itself fact e h k = subst (GivesAtOnce fact) (is_same fact e h) k

  at_once : (fact e : Exp) → gives_at_once same fact e ≡ true → GivesAtOnce fact e
  at_once (And a b) e h =
      elim (or_cases (same (And a b) e || gives_at_once same a e) (gives_at_once same b e) h) [
        | inl x ↦ elim (or_cases (same (And a b) e) (gives_at_once same a e) x) [
          | inl y ↦ inl (sym (is_same (And a b) e y))
          | inr y ↦ inr (inl (at_once a e y))
        ]
        | inr x ↦ inr (inr (at_once b e x))
      ]
  at_once (Between low x high) e h =
      elim (or_cases (same (Between low x high) e || same (Le (NumberLit low) x) e) (same (Le x (NumberLit high)) e) h) [
        | inl z ↦ elim (or_cases (same (Between low x high) e) (same (Le (NumberLit low) x) e) z) [
          | inl y ↦ inl (sym (is_same (Between low x high) e y))
          | inr y ↦ inr (inl (sym (is_same (Le (NumberLit low) x) e y)))
        ]
        | inr z ↦ inr (inr (sym (is_same (Le x (NumberLit high)) e z)))
      ]
  at_once fact e h = sym (is_same fact e h)

  some_at_once : (fs : List Fact) (e : Exp) → some_gives same fs e ≡ true → SomeFact (λ fact. GivesAtOnce fact e) fs
  some_at_once (f ∷ fs) e h =
      elim (or_cases (gives_at_once same (stands_for f) e) (some_gives same fs e) h) [
        | inl x ↦ inl (at_once (stands_for f) e x)
        | inr x ↦ inr (some_at_once fs e x)
      ]
  some_at_once [] e h = absurd cc

  abbrev Range : Base → Exp → Exp → Exp
  Range Words natural integer = TruthLit true
  Range Naturals natural integer = natural
  Range Integers natural integer = integer

  first_else : (o r : Option Base) (b : Base) → or_else o r ≡ Some b → (o ≡ Some b) ⊎ (r ≡ Some b)
  first_else (Some c) r b h = inl h
  first_else None r b h = inr h

  or_neither : (p q : Bool) (b : Base) → cond p (Some Naturals) (cond q (Some Integers) None) ≡ Some b → ((p ≡ true) × (b ≡ Naturals)) ⊎ ((q ≡ true) × (b ≡ Integers))
  or_neither true q b h = inl (refl, sym (some_is h))
    where
      some_is : {x y : Base} → ◌≡◌ {A = Option Base} (Some x) (Some y) → x ≡ y
      some_is h = cc
  or_neither false true b h = inr (refl, sym (some_is h))
    where
      some_is : {x y : Base} → ◌≡◌ {A = Option Base} (Some x) (Some y) → x ≡ y
      some_is h = cc
  or_neither false false b h = absurd cc

  -- some of the facts gives it at once
  abbrev Has : List Fact → Exp → Type 0
  Has fs e = SomeFact (λ fact. GivesAtOnce fact e) fs

  newest : (P : Exp → Type 0) (cs fs : List Fact) (f : Fact) → P (stands_for f) → SomeFact P (cs ++ (f ∷ fs))
  newest P [] fs f h = inl h
  newest P (c ∷ cs) fs f h = inr (newest P cs fs f h)

  one_more : (P : Exp → Type 0) (cs fs : List Fact) (f : Fact) → SomeFact P (cs ++ fs) → SomeFact P (cs ++ (f ∷ fs))
  one_more P [] fs f h = inr h
  one_more P (c ∷ cs) fs f (inl h) = inl h
  one_more P (c ∷ cs) fs f (inr h) = inr (one_more P cs fs f h)

  behind : (P : Exp → Type 0) (cs fs : List Fact) → SomeFact P fs → SomeFact P (cs ++ fs)
  behind P [] fs h = h
  behind P (c ∷ cs) fs h = inr (behind P cs fs h)

  module _ (all : List Fact) (natural integer : Exp) where
    abbrev range : Base → Exp
    range b = Range b natural integer

    -- a fact that is one of the ranges
    alone : (fact : Exp) (b : Base) → ((x : Exp) → fact ≡ x → Gives all fact x) → cond (same fact natural) (Some Naturals) (cond (same fact integer) (Some Integers) None) ≡ Some b → Gives all fact (range b)
    alone fact b k h =
        elim (or_neither (same fact natural) (same fact integer) b h) [
          | inl x ↦ subst (λ c. Gives all fact (range c)) (sym x.1) (k natural (is_same fact natural x.0))
          | inr x ↦ subst (λ c. Gives all fact (range c)) (sym x.1) (k integer (is_same fact integer x.0))
        ]

    given : (before : List Fact) → ((e : Exp) → Has before e → Has all e) → (fact : Exp) (b : Base) → range_given same before natural integer fact ≡ Some b → Gives all fact (range b)
    given before known (And x y) b h =
        elim (first_else (range_given same before natural integer x) (range_given same before natural integer y) b h) [
          | inl k ↦ inr (inl (given before known x b k))
          | inr k ↦ inr (inr (given before known y b k))
        ]
    given before known (Imp c d) b h = by_test (some_gives same before c) refl h (given before known d b)
      where
        by_test : (t : Bool) → some_gives same before c ≡ t → cond t (range_given same before natural integer d) None ≡ Some b →
            (range_given same before natural integer d ≡ Some b → Gives all d (range b)) → Gives all (Imp c d) (range b)
        by_test true e h rest = inr (known c (some_at_once before c e), rest h)
        by_test false e h rest = absurd cc
    given before known (Between low x high) b h = alone (Between low x high) b (λ z e. inl (sym e)) h
    given before known fact b h = alone fact b (λ z e. sym e) h

    in_turn : (before : List Fact) → ((e : Exp) → Has before e → Has all e) → (fact : Exp) → ((e : Exp) → GivesAtOnce fact e → Has all e) → (b : Base) → first_range same before natural integer fact ≡ Some b → Gives all fact (range b)
    in_turn before known (And x y) there b h =
        elim (first_else (first_range same before natural integer x) (first_range same (Whole x ∷ before) natural integer y) b h) [
          | inl k ↦ inr (inl (in_turn before known x (λ e g. there e (inr (inl g))) b k))
          | inr k ↦ inr (inr (in_turn (Whole x ∷ before) known_left y (λ e g. there e (inr (inr g))) b k))
        ]
      where
        known_left : (e : Exp) → Has (Whole x ∷ before) e → Has all e
        known_left e (inl g) = there e (inr (inl g))
        known_left e (inr g) = known e g
    in_turn before known fact there b h = given before known fact b h

    oldest : (cs fs : List Fact) → ((e : Exp) → Has (cs ++ fs) e → Has all e) → (b : Base) → oldest_range same cs natural integer fs ≡ Some b → SomeFact (λ fact. Gives all fact (range b)) fs
    oldest cs [] known b h = absurd cc
    oldest cs (f ∷ fs) known b h =
        elim (first_else (oldest_range same cs natural integer fs) (first_range same (cs ++ fs) natural integer (stands_for f)) b h) [
          | inl k ↦ inr (oldest cs fs (λ e g. known e (one_more (λ fact. GivesAtOnce fact e) cs fs f g)) b k)
          | inr k ↦ inl (in_turn (cs ++ fs) (λ e g. known e (one_more (λ fact. GivesAtOnce fact e) cs fs f g)) (stands_for f) (λ e g. known e (newest (λ fact. GivesAtOnce fact e) cs fs f g)) b k)
        ]

  found : (k : Surroundings) (natural integer : Exp) (b : Base) → oldest_range same k.conditions natural integer k.facts ≡ Some b → SomeFact (λ fact. Gives (known_there k) fact (Range b natural integer)) (known_there k)
  found k natural integer b h =
      behind (λ fact. Gives (known_there k) fact (Range b natural integer)) k.conditions k.facts
      (oldest (known_there k) natural integer k.conditions k.facts (λ e g. g) b h)

  some_base : (o : Option Base) (b : Base) → or_words o ≡ b → (o ≡ Some b) ⊎ (b ≡ Words)
  some_base None b h = inr (sym h)
  some_base (Some c) b h = inl (ap (λ x. Some x) h)

  pub base_known : (numbers : Bool) (k : Surroundings) (n : ℕ) (natural integer : Exp) (b : Base) → base_in same numbers k n natural integer ≡ b →
      IsKnown (known_there k) (Range b (natural_range n natural) (integer_range n integer))
  base_known false k n natural integer b h = inl (ap (λ c. Range c (natural_range n natural) (integer_range n integer)) (sym h))
  base_known true k n natural integer b h =
      elim (some_base (oldest_range same k.conditions (natural_range n natural) (integer_range n integer) k.facts) b h) [
        | inl e ↦ inr (found k (natural_range n natural) (integer_range n integer) b e)
        | inr e ↦ inl (ap (λ c. Range c (natural_range n natural) (integer_range n integer)) e)
      ]

  either_range : (b : Base) (r : Exp) (fs all : List Fact) → SomeFact (λ fact. Gives all fact (Range b r r)) fs → (b ≡ Words → ⊥) → SomeFact (λ fact. Gives all fact r) fs
  either_range Words r fs all h k = absurd (k refl)
  either_range _ _ _ _ h _ = h

  -- a fact gives no words
  module _ (x y : Exp) where
    no_words : (before : List Fact) (fact : Exp) → range_given same before x y fact ≡ Some Words → ⊥
    no_words before (And c d) h = elim (first_else (range_given same before x y c) (range_given same before x y d) Words h) [ inl k ↦ no_words before c k | inr k ↦ no_words before d k ]
    no_words before (Imp c d) h = by_test (some_gives same before c) h (no_words before d)
      where
        by_test : (t : Bool) → cond t (range_given same before x y d) None ≡ Some Words → (range_given same before x y d ≡ Some Words → ⊥) → ⊥
        by_test true k rest = rest k
        by_test false k rest = cc
    no_words before fact h = by_tests (same fact x) (same fact y) h
      where
        by_tests : (p q : Bool) → cond p (Some Naturals) (cond q (Some Integers) None) ≡ Some Words → ⊥
        by_tests false true k = cc
        by_tests _ _ k = cc

    no_first : (before : List Fact) (fact : Exp) → first_range same before x y fact ≡ Some Words → ⊥
    no_first before (And c d) h =
        elim (first_else (first_range same before x y c) (first_range same (Whole c ∷ before) x y d) Words h) [ inl k ↦ no_first before c k | inr k ↦ no_first (Whole c ∷ before) d k ]
    no_first before fact h = no_words before fact h

    no_oldest : (cs fs : List Fact) → oldest_range same cs x y fs ≡ Some Words → ⊥
    no_oldest cs [] h = cc
    no_oldest cs (f ∷ fs) h =
        elim (first_else (oldest_range same cs x y fs) (first_range same (cs ++ fs) x y (stands_for f)) Words h) [ inl k ↦ no_oldest cs fs k | inr k ↦ no_first (cs ++ fs) (stands_for f) k ]

  pub signed_known : (numbers : Bool) (k : Surroundings) (n : ℕ) (integer : Exp) → signed_base_in same numbers k n integer ≡ Integers → IsKnown (known_there k) (integer_range n integer)
  signed_known false k n integer h = absurd cc
  signed_known true k n integer h = by_found (oldest_range same k.conditions (integer_range n integer) (integer_range n integer) k.facts) refl h
    where
      by_found : (o : Option Base) → oldest_range same k.conditions (integer_range n integer) (integer_range n integer) k.facts ≡ o → signed_or_words o ≡ Integers → IsKnown (known_there k) (integer_range n integer)
      by_found None e h = absurd cc
      by_found (Some b) e h =
          inr (either_range b (integer_range n integer) (known_there k) (known_there k) (found k (integer_range n integer) (integer_range n integer) b e)
          (λ w. no_oldest (integer_range n integer) (integer_range n integer) k.conditions k.facts (e ∙ ap (λ z. Some z) w)))

-- more facts don't change the range that is found
pub range_stays : (same : Exp → Exp → Bool) (conditions : List Fact) (natural integer : Exp) (more fs : List Fact) (b : Base) → oldest_range same conditions natural integer fs ≡ Some b → oldest_range same conditions natural integer (more ++ fs) ≡ Some b
range_stays same conditions natural integer [] fs b h = h
range_stays same conditions natural integer (f ∷ more) fs b h =
    ap (λ o. or_else o (first_range same (conditions ++ (more ++ fs)) natural integer (stands_for f))) (range_stays same conditions natural integer more fs b h)
