-- A sum, a difference, a product, a negation or a quotient is of numbers where its own condition is there.
use Rattle.std.proofs.Common.{◌≡◌, ℕ, Bool, true, false, cond, List, [], ◌∷◌, ◌++◌, Some, refl, sym, subst, ap, ◌∙◌}
use Rattle.std.proofs.lemmas.Bool.{and_parts}
use Rattle.c_values.specs.Types.{Target, IntType, Integer, width_of, is_signed}
use Rattle.c_values.specs.Number as N
use Rattle.c_values.specs.Number.{least, greatest}
use Rattle.c_values.specs.Word.{WordOp, Wadd, Wsub, Wmul, Wsdiv, Wneg}
use Rattle.expression_lang.specs.Expression as X
use Rattle.expression_lang.specs.Expression.{Exp}
use Rattle.expression_lang.specs.Form.{is_arithmetic, is_negation}
use Rattle.expression_lang.specs.GuardKind as K
use Rattle.expression_lang.specs.Sort.{Numbers, Scope}
use Rattle.expression_lang.specs.Signature.{Binder}
use Rattle.simpl_lang.specs.Command.{Condition}
use Rattle.ac_expr.specs.Fact.{Whole}
use Rattle.rule_heap.specs.ExpLifted.{exp_lifted}
use Rattle.rule_word.specs.Rule.{Unsigned, Signed}
use Rattle.rule_word.specs.Scopes.{width_in}
use Rattle.rule_word.specs.Bases.{Surroundings, among, base_in}
use Rattle.rule_word.specs.WordsAbstracted.{Operands, or_zero, binary_base, negation_base}
use Rattle.rule_word.specs.Ready.{is_exact, is_no_word, ready}
use Rattle.c_lang.specs.Typed as C
use Rattle.generation.specs.Guards.{when, number, word_op_of, fits, computes}
use Rattle.pipeline.proofs.GuardsStand.{under_all, become}
use Rattle.pipeline.proofs.SumsBased.{range_of, at_guard, sum_based, quotient_based, negated_range, negation_based}
use Rattle.pipeline.proofs.ReadyWords.{become_at, width_at, operands_at}
use Rattle.pipeline.proofs.GivenRanges.{IsThere, AllThere, at_its_guard}

module _ (same : Exp → Exp → Bool) (finds : (e : Exp) → same e e ≡ true) (g : Scope) (names : List Binder) where
  abbrev There : Surroundings → Exp → Type 0
  There k e = IsThere same finds g names k e

  abbrev All : Surroundings → List Condition → Type 0
  All k cs = AllThere same finds g names k cs

  abbrev IsWide : Exp → ℕ → Type 0
  IsWide e n = width_in g (exp_lifted e) ≡ Some n

  -- the number that a word is, by its sign
  abbrev numbered : Bool → Exp → Exp
  numbered s e = cond s (X.ToInt e) (X.ToNat e)

  module _ (k : Surroundings) (n : ℕ) (a b : Exp) (wa : IsWide a n) (wb : IsWide b n) where
    width : width_in g (exp_lifted b) ≡ width_in g (exp_lifted a)
    width = wb ∙ sym wa

    at_width : n ≡ width_at same g names a
    at_width = sym (ap or_zero wa)

    sum_there : (s : Bool) (op : WordOp) (o : N.NumberOp) →
        ((os : Operands) → binary_base same true k (width_at same g names a) op os
        ≡ base_in same true k (width_at same g names a) (X.Arith o os.naturals.0.right os.naturals.1.right)
        (X.Arith o os.integers.0.right os.integers.1.right)) →
        There k (X.Between (least s n) (X.Arith o (numbered s a) (numbered s b)) (greatest s n)) →
        is_no_word (binary_base same true k (width_at same g names a) op (operands_at same g names k a b)) ≡ true
    sum_there true op o is h =
        let e = X.Between (least true n) (X.Arith o (X.ToInt a) (X.ToInt b)) (greatest true n) in
        let r = and_parts (ready same true g names (at_guard same finds g names h.older h.cs) (exp_lifted a))
        (ready same true g names (at_guard same finds g names h.older h.cs) (exp_lifted b))
        (at_its_guard same finds g names k e h) in
        sum_based same finds g names true op o (exp_lifted a) (exp_lifted b) h.older h.newer h.cs k is h.conditions
        (subst (λ m. k.facts ≡ h.newer ++ (Whole
        (become same finds g names (among h.older) (under_all h.cs
        (range_of true m o (exp_lifted a) (exp_lifted b)))) ∷ h.older)) at_width h.facts)
        width r.0 r.1
    sum_there false op o is h =
        let e = X.Between (least false n) (X.Arith o (X.ToNat a) (X.ToNat b)) (greatest false n) in
        let r = and_parts (ready same true g names (at_guard same finds g names h.older h.cs) (exp_lifted a))
        (ready same true g names (at_guard same finds g names h.older h.cs) (exp_lifted b))
        (at_its_guard same finds g names k e h) in
        sum_based same finds g names false op o (exp_lifted a) (exp_lifted b) h.older h.newer h.cs k is h.conditions
        (subst (λ m. k.facts ≡ h.newer ++ (Whole
        (become same finds g names (among h.older) (under_all h.cs
        (range_of false m o (exp_lifted a) (exp_lifted b)))) ∷ h.older)) at_width h.facts)
        width r.0 r.1

    quotient_there : There k (X.Between (least true n) (X.Arith N.Div (X.ToInt a) (X.ToInt b)) (greatest true n)) →
        is_no_word (binary_base same true k (width_at same g names a) Wsdiv (operands_at same g names k a b)) ≡ true
    quotient_there h =
        let e = X.Between (least true n) (X.Arith N.Div (X.ToInt a) (X.ToInt b)) (greatest true n) in
        let r = and_parts (ready same true g names (at_guard same finds g names h.older h.cs) (exp_lifted a))
        (ready same true g names (at_guard same finds g names h.older h.cs) (exp_lifted b))
        (at_its_guard same finds g names k e h) in
        quotient_based same finds g names (exp_lifted a) (exp_lifted b) h.older h.newer h.cs k h.conditions
        (subst (λ m. k.facts ≡ h.newer ++ (Whole
        (become same finds g names (among h.older) (under_all h.cs
        (range_of true m N.Div (exp_lifted a) (exp_lifted b)))) ∷ h.older)) at_width h.facts)
        width r.0 r.1

    quotient_by_sign : (s : Bool) (f : K.GuardKind) →
        All k (cond s (when f (X.Between (least s n) (X.Arith N.Div (X.ToInt a) (X.ToInt b)) (greatest s n)) ∷ []) []) →
        is_exact true (is_arithmetic (word_op_of C.Divide s))
        (binary_base same true k (width_at same g names a) (word_op_of C.Divide s) (operands_at same g names k a b)) ≡ true
    quotient_by_sign true f h = quotient_there h.0
    quotient_by_sign false f h = refl

    rest_by_sign : (s : Bool) →
        is_exact true (is_arithmetic (word_op_of C.Remainder s))
        (binary_base same true k (width_at same g names a) (word_op_of C.Remainder s) (operands_at same g names k a b)) ≡ true
    rest_by_sign true = refl
    rest_by_sign false = refl

  -- the one condition of what is to be of the type
  fits_there : (k : Surroundings) (t : Target) (i : IntType) (e : Exp) → All k (fits t Numbers i e) →
      There k (X.Between (N.least_of t i) e (N.greatest_of t i))
  fits_there k t i e h = by_sign (is_signed i) h
    where
      by_sign : (s : Bool) → All k (cond s (when K.Signed (X.Between (N.least_of t i) e (N.greatest_of t i)) ∷ [])
          (when K.Wrap (X.Between (N.least_of t i) e (N.greatest_of t i)) ∷ [])) →
          There k (X.Between (N.least_of t i) e (N.greatest_of t i))
      by_sign true h = h.0
      by_sign false h = h.0

  pub compute_ready : (k : Surroundings) (t : Target) (i : IntType) (op : C.Arithmetic) (a b : Exp) → IsWide a (width_of t i) →
      IsWide b (width_of t i) → All k (computes t Numbers i op a b) →
      is_exact true (is_arithmetic (word_op_of op (is_signed i)))
      (binary_base same true k (width_at same g names a) (word_op_of op (is_signed i)) (operands_at same g names k a b))
      ≡ true
  compute_ready k t i C.Add a b wa wb h =
      sum_there k (width_of t i) a b wa wb (is_signed i) Wadd N.Add (λ os. refl) (fits_there k t i _ h)
  compute_ready k t i C.Subtract a b wa wb h =
      sum_there k (width_of t i) a b wa wb (is_signed i) Wsub N.Sub (λ os. refl) (fits_there k t i _ h)
  compute_ready k t i C.Multiply a b wa wb h =
      sum_there k (width_of t i) a b wa wb (is_signed i) Wmul N.Mul (λ os. refl) (fits_there k t i _ h)
  compute_ready k t i C.Divide a b wa wb h = quotient_by_sign k (width_of t i) a b wa wb (is_signed i) K.Signed h.1
  compute_ready k t i C.Remainder a b wa wb h = rest_by_sign k (width_of t i) a b wa wb (is_signed i)

  negated_by_sign : (k : Surroundings) (n : ℕ) (a : Exp) → IsWide a n → (s : Bool) →
      There k (X.Between (least s n) (X.Negate (numbered s a)) (greatest s n)) →
      is_no_word (negation_base same true k (width_at same g names a) Wneg
      (become_at same g names k a (Unsigned (width_at same g names a)))
      (become_at same g names k a (Signed (width_at same g names a)))) ≡ true
  negated_by_sign k n a wa true h =
      negation_based same finds g names true (exp_lifted a) h.older h.newer h.cs k h.conditions
      (subst (λ m. k.facts ≡ h.newer ++ (Whole
      (become same finds g names (among h.older) (under_all h.cs
      (negated_range same finds g names true m (exp_lifted a)))) ∷ h.older)) (sym (ap or_zero wa)) h.facts)
      (at_its_guard same finds g names k (X.Between (least true n) (X.Negate (X.ToInt a)) (greatest true n)) h)
  negated_by_sign k n a wa false h =
      negation_based same finds g names false (exp_lifted a) h.older h.newer h.cs k h.conditions
      (subst (λ m. k.facts ≡ h.newer ++ (Whole
      (become same finds g names (among h.older) (under_all h.cs
      (negated_range same finds g names false m (exp_lifted a)))) ∷ h.older)) (sym (ap or_zero wa)) h.facts)
      (at_its_guard same finds g names k (X.Between (least false n) (X.Negate (X.ToNat a)) (greatest false n)) h)

  pub negate_ready : (k : Surroundings) (t : Target) (i : IntType) (a : Exp) → IsWide a (width_of t i) →
      All k (fits t Numbers i (X.Negate (number (Integer i) a))) →
      is_exact true (is_negation Wneg) (negation_base same true k (width_at same g names a) Wneg
      (become_at same g names k a (Unsigned (width_at same g names a)))
      (become_at same g names k a (Signed (width_at same g names a)))) ≡ true
  negate_ready k t i a wa h = negated_by_sign k (width_of t i) a wa (is_signed i) (fits_there k t i _ h)
