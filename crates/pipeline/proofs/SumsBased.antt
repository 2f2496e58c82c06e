-- A sum, a difference, a product, a negation or a signed quotient is of numbers wherever its guard stands in front of it, under
-- the conditions that the guard names, where its operands were ready at the guard.
use Rattle.std.proofs.Common.{◌≡◌, ℕ, Bool, true, false, cond, List, [], ◌∷◌, ◌++◌, map, Option, Some, None, inl, inr, refl, sym, subst, ap, ap₂, ◌∙◌}
use Rattle.c_values.specs.Word.{WordOp, Wsdiv, Wneg}
use Rattle.c_values.specs.Number as N
use Rattle.c_values.specs.Number.{least, greatest}
use Rattle.expression_lang.specs.Expression as X
use Rattle.expression_lang.specs.Expression.{Exp}
use Rattle.expression_lang.specs.Sort.{Scope}
use Rattle.expression_lang.specs.Signature.{Binder}
use Rattle.ac_expr.specs.Fact.{Fact, Whole, stands_for}
use Rattle.rule_word.specs.Rule.{View, Unsigned, Signed}
use Rattle.rule_word.specs.Scopes.{own, width_in}
use Rattle.rule_word.specs.Bases.{Surroundings, under, among, Base, Naturals, Integers, natural_range, integer_range, or_else, some_gives, range_given, first_range, oldest_range, or_words, base_in, signed_or_words}
use Rattle.rule_word.specs.WordsAbstracted.{Abstracted, Operands, operands, or_zero, binary_base, negation_base, abstracted}
use Rattle.rule_word.specs.Ready.{is_no_word, ready}
use Rattle.rule_word.proofs.AbstractedStays.{IsLater, stays}
use Rattle.pipeline.proofs.GuardsStand.{under_all, become, under_each, range_there}

-- a range that is found is one of numbers
module _ (same : Exp → Exp → Bool) (natural integer : Exp) where
  either_no_word : (o r : Option Base) (b : Base) → (o ≡ Some b → is_no_word b ≡ true) → (r ≡ Some b → is_no_word b ≡ true) → or_else o r ≡ Some b → is_no_word b ≡ true
  either_no_word (Some c) r b h k q = h q
  either_no_word None r b h k q = k q

  tested : (p q : Bool) (b : Base) → cond p (Some Naturals) (cond q (Some Integers) None) ≡ Some b → is_no_word b ≡ true
  tested true q b h = ap is_no_word (sym (some_is h))
    where
      some_is : {x y : Base} → ◌≡◌ {A = Option Base} (Some x) (Some y) → x ≡ y
      some_is h = cc
  tested false true b h = ap is_no_word (sym (some_is h))
    where
      some_is : {x y : Base} → ◌≡◌ {A = Option Base} (Some x) (Some y) → x ≡ y
      some_is h = cc
  tested false false b h = absurd cc

  given_no_word : (before : List Fact) (fact : Exp) (b : Base) → range_given same before natural integer fact ≡ Some b → is_no_word b ≡ true
  given_no_word before (X.And c d) b h = either_no_word (range_given same before natural integer c) (range_given same before natural integer d) b (given_no_word before c b) (given_no_word before d b) h
  given_no_word before (X.Imp c d) b h = by_test (some_gives same before c) h (given_no_word before d b)
    where
      by_test : (t : Bool) → cond t (range_given same before natural integer d) None ≡ Some b → (range_given same before natural integer d ≡ Some b → is_no_word b ≡ true) → is_no_word b ≡ true
      by_test true k rest = rest k
      by_test false k rest = absurd cc
  given_no_word before fact b h = tested (same fact natural) (same fact integer) b h

  first_no_word : (before : List Fact) (fact : Exp) (b : Base) → first_range same before natural integer fact ≡ Some b → is_no_word b ≡ true
  first_no_word before (X.And c d) b h =
      either_no_word (first_range same before natural integer c) (first_range same (Whole c ∷ before) natural integer d) b (first_no_word before c b) (first_no_word (Whole c ∷ before) d b) h
  first_no_word before fact b h = given_no_word before fact b h

  pub found_no_word : (cs fs : List Fact) (b : Base) → oldest_range same cs natural integer fs ≡ Some b → is_no_word b ≡ true
  found_no_word cs [] b h = absurd cc
  found_no_word cs (f ∷ fs) b h =
      either_no_word (oldest_range same cs natural integer fs) (first_range same (cs ++ fs) natural integer (stands_for f)) b (found_no_word cs fs b) (first_no_word (cs ++ fs) (stands_for f) b) h

joined : (xs : List Fact) (y : Fact) (ys : List Fact) → xs ++ (y ∷ ys) ≡ (xs ++ (y ∷ [])) ++ ys
joined [] y ys = refl
joined (x ∷ xs) y ys = ap (λ zs. x ∷ zs) (joined xs y ys)

-- the guard of an operation, signed or not
abbrev pub range_of : Bool → ℕ → N.NumberOp → Exp → Exp → Exp
range_of true n o a b = X.Between (least true n) (X.Arith o (X.ToInt a) (X.ToInt b)) (greatest true n)
range_of false n o a b = X.Between (least false n) (X.Arith o (X.ToNat a) (X.ToNat b)) (greatest false n)

module _ (same : Exp → Exp → Bool) (finds : (e : Exp) → same e e ≡ true) (g : Scope) (names : List Binder) where
  abbrev A : Surroundings → Exp → View → Abstracted
  A k e v = abstracted same true g names k e v

  facts_kept : (k : Surroundings) (cs : List Exp) → (under_each same finds g names k cs).facts ≡ k.facts
  facts_kept k [] = refl
  facts_kept k (c ∷ cs) = facts_kept (under (Whole (become same finds g names k c)) k) cs

  -- where a guard under conditions stands, past them
  abbrev pub at_guard : List Fact → List Exp → Surroundings
  at_guard older cs = under_each same finds g names (among older) cs

  pub behind : (older newer : List Fact) (cs : List Exp) (e : Exp) (k : Surroundings) → map stands_for k.conditions ≡ map stands_for (at_guard older cs).conditions →
      k.facts ≡ newer ++ (Whole (become same finds g names (among older) (under_all cs e)) ∷ older) → IsLater (at_guard older cs) k
  behind older newer cs e k alike facts = record {
    conditions = alike;
    more = newer ++ (Whole (become same finds g names (among older) (under_all cs e)) ∷ []);
    facts = facts ∙ joined newer (Whole (become same finds g names (among older) (under_all cs e))) older ∙ ap (λ fs. (newer ++ (Whole (become same finds g names (among older) (under_all cs e)) ∷ [])) ++ fs) (sym (facts_kept (among older) cs));
  }

  abbrev os_in : Surroundings → Exp → Exp → Operands
  os_in k a b = operands (λ w. A k a w) (λ w. A k b w) (own g a) (own g b) (or_zero (width_in g a))

  pub sum_based : (is_signed : Bool) (op : WordOp) (o : N.NumberOp) (a b : Exp) (older newer : List Fact) (cs : List Exp) (k : Surroundings) →
      ((os : Operands) → binary_base same true k (or_zero (width_in g a)) op os ≡ base_in same true k (or_zero (width_in g a)) (X.Arith o os.naturals.0.right os.naturals.1.right) (X.Arith o os.integers.0.right os.integers.1.right)) →
      map stands_for k.conditions ≡ map stands_for (at_guard older cs).conditions →
      k.facts ≡ newer ++ (Whole (become same finds g names (among older) (under_all cs (range_of is_signed (or_zero (width_in g a)) o a b))) ∷ older) →
      width_in g b ≡ width_in g a → ready same true g names (at_guard older cs) a ≡ true → ready same true g names (at_guard older cs) b ≡ true →
      is_no_word (binary_base same true k (or_zero (width_in g a)) op (os_in k a b)) ≡ true
  sum_based is_signed op o a b older newer cs k is alike facts width ra rb = ap is_no_word (is (os_in k a b)) ∙ by_sign is_signed facts
    where
      found : (r : (c : Base) × (oldest_range same k.conditions (natural_range (or_zero (width_in g a)) (X.Arith o (os_in k a b).naturals.0.right (os_in k a b).naturals.1.right)) (integer_range (or_zero (width_in g a)) (X.Arith o (os_in k a b).integers.0.right (os_in k a b).integers.1.right)) k.facts ≡ Some c)) →
          is_no_word (base_in same true k (or_zero (width_in g a)) (X.Arith o (os_in k a b).naturals.0.right (os_in k a b).naturals.1.right) (X.Arith o (os_in k a b).integers.0.right (os_in k a b).integers.1.right)) ≡ true
      found r = ap (λ c. is_no_word (or_words c)) r.1 ∙ found_no_word same _ _ k.conditions k.facts r.0 r.1

      by_sign : (s : Bool) → k.facts ≡ newer ++ (Whole (become same finds g names (among older) (under_all cs (range_of s (or_zero (width_in g a)) o a b))) ∷ older) →
          is_no_word (base_in same true k (or_zero (width_in g a)) (X.Arith o (os_in k a b).naturals.0.right (os_in k a b).naturals.1.right) (X.Arith o (os_in k a b).integers.0.right (os_in k a b).integers.1.right)) ≡ true
      by_sign true f =
          let m = or_zero (width_in g a) in
          let l = behind older newer cs (range_of true m o a b) k alike f in
          let same_a = stays same true g names (at_guard older cs) k l a ra (Signed m) in
          let same_b = stays same true g names (at_guard older cs) k l b rb (Signed m) in
          found (range_there same finds g names _ _ older newer cs (least true m) (X.Arith o (X.ToInt a) (X.ToInt b)) (greatest true m) k alike f
          (inr (subst (λ e. same e (integer_range m (X.Arith o (A k a (Signed m)).right (A k b (Signed m)).right)) ≡ true)
          (ap₂ (λ x y. X.Between (least true m) (X.Arith o x.right y.right) (greatest true m)) same_a (same_b ∙ ap (λ w. A (at_guard older cs) b (Signed (or_zero w))) (sym width)))
          (finds _))))
      by_sign false f =
          let m = or_zero (width_in g a) in
          let l = behind older newer cs (range_of false m o a b) k alike f in
          let same_a = stays same true g names (at_guard older cs) k l a ra (Unsigned m) in
          let same_b = stays same true g names (at_guard older cs) k l b rb (Unsigned m) in
          found (range_there same finds g names _ _ older newer cs (least false m) (X.Arith o (X.ToNat a) (X.ToNat b)) (greatest false m) k alike f
          (inl (subst (λ e. same e (natural_range m (X.Arith o (A k a (Unsigned m)).right (A k b (Unsigned m)).right)) ≡ true)
          (ap₂ (λ x y. X.Between (least false m) (X.Arith o x.right y.right) (greatest false m)) same_a (same_b ∙ ap (λ w. A (at_guard older cs) b (Unsigned (or_zero w))) (sym width)))
          (finds _))))

  -- a signed division, by the range of its quotient
  pub quotient_based : (a b : Exp) (older newer : List Fact) (cs : List Exp) (k : Surroundings) → map stands_for k.conditions ≡ map stands_for (at_guard older cs).conditions →
      k.facts ≡ newer ++ (Whole (become same finds g names (among older) (under_all cs (range_of true (or_zero (width_in g a)) N.Div a b))) ∷ older) →
      width_in g b ≡ width_in g a → ready same true g names (at_guard older cs) a ≡ true → ready same true g names (at_guard older cs) b ≡ true →
      is_no_word (binary_base same true k (or_zero (width_in g a)) Wsdiv (os_in k a b)) ≡ true
  quotient_based a b older newer cs k alike facts width ra rb =
      let m = or_zero (width_in g a) in
      let l = behind older newer cs (range_of true m N.Div a b) k alike facts in
      let same_a = stays same true g names (at_guard older cs) k l a ra (Signed m) in
      let same_b = stays same true g names (at_guard older cs) k l b rb (Signed m) in
      let range = integer_range m (X.Arith N.Div (A k a (Signed m)).right (A k b (Signed m)).right) in
      let r = range_there same finds g names range range older newer cs (least true m) (X.Arith N.Div (X.ToInt a) (X.ToInt b)) (greatest true m) k alike facts
      (inr (subst (λ e. same e (integer_range m (X.Arith N.Div (A k a (Signed m)).right (A k b (Signed m)).right)) ≡ true)
      (ap₂ (λ x y. X.Between (least true m) (X.Arith N.Div x.right y.right) (greatest true m)) same_a (same_b ∙ ap (λ w. A (at_guard older cs) b (Signed (or_zero w))) (sym width)))
      (finds _))) in
      ap (λ c. is_no_word (signed_or_words c)) r.1

  -- a negation
  abbrev pub negated_range : Bool → ℕ → Exp → Exp
  negated_range true n a = X.Between (least true n) (X.Negate (X.ToInt a)) (greatest true n)
  negated_range false n a = X.Between (least false n) (X.Negate (X.ToNat a)) (greatest false n)

  pub negation_based : (is_signed : Bool) (a : Exp) (older newer : List Fact) (cs : List Exp) (k : Surroundings) → map stands_for k.conditions ≡ map stands_for (at_guard older cs).conditions →
      k.facts ≡ newer ++ (Whole (become same finds g names (among older) (under_all cs (negated_range is_signed (or_zero (width_in g a)) a))) ∷ older) →
      ready same true g names (at_guard older cs) a ≡ true →
      is_no_word (negation_base same true k (or_zero (width_in g a)) Wneg (A k a (Unsigned (or_zero (width_in g a)))) (A k a (Signed (or_zero (width_in g a))))) ≡ true
  negation_based true a older newer cs k alike facts ra =
      let m = or_zero (width_in g a) in
      let l = behind older newer cs (negated_range true m a) k alike facts in
      let natural = natural_range m (X.Negate (A k a (Unsigned m)).right) in
      let integer = integer_range m (X.Negate (A k a (Signed m)).right) in
      let r = range_there same finds g names natural integer older newer cs (least true m) (X.Negate (X.ToInt a)) (greatest true m) k alike facts
      (inr (subst (λ e. same e (integer_range m (X.Negate (A k a (Signed m)).right)) ≡ true)
      (ap (λ x. X.Between (least true m) (X.Negate x.right) (greatest true m)) (stays same true g names (at_guard older cs) k l a ra (Signed m))) (finds _))) in
      ap (λ c. is_no_word (or_words c)) r.1 ∙ found_no_word same natural integer k.conditions k.facts r.0 r.1
  negation_based false a older newer cs k alike facts ra =
      let m = or_zero (width_in g a) in
      let l = behind older newer cs (negated_range false m a) k alike facts in
      let natural = natural_range m (X.Negate (A k a (Unsigned m)).right) in
      let integer = integer_range m (X.Negate (A k a (Signed m)).right) in
      let r = range_there same finds g names natural integer older newer cs (least false m) (X.Negate (X.ToNat a)) (greatest false m) k alike facts
      (inl (subst (λ e. same e (natural_range m (X.Negate (A k a (Unsigned m)).right)) ≡ true)
      (ap (λ x. X.Between (least false m) (X.Negate x.right) (greatest false m)) (stays same true g names (at_guard older cs) k l a ra (Unsigned m))) (finds _))) in
      ap (λ c. is_no_word (or_words c)) r.1 ∙ found_no_word same natural integer k.conditions k.facts r.0 r.1
