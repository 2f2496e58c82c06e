-- Each row of C's expressions, from what is known of its operands.
use Rattle.std.proofs.Common.{◌≡◌, ℕ, Bool, true, false, not, cond, ℤ, pos, neg_ℤ, ◌+ℤ◌, ◌-ℤ◌, ◌*ℤ◌, int_lt, int_le, int_eq, refl, sym, ap, ap₂, ◌∙◌, subst}
use Rattle.c_values.specs.Types.{IntType, CType, Integer, width_of, address_width, is_signed}
use Rattle.c_values.specs.Number.{NumberOp, Add, Sub, Mul, Div, Mod, is_between, least, greatest, is_of_type, number_op}
use Rattle.c_values.specs.Word.{Word, WordOp, word, word_op, ShiftOp, Wshl, Wushr, Wsshr, word_unary, Wnot, Wneg}
use Rattle.c_values.specs.Value.{Value, Bits, word_in, number_in, same_value}
use Rattle.c_values.specs.Layout.{Layout, shape_of, size_of, is_scalar, scalar_width}
use Rattle.c_values.specs.Path.{HasShape, IsBits}
use Rattle.c_values.specs.CodeSameType.{type_is}
use Rattle.c_values.proofs.Widths.{some_width}
use Rattle.expression_lang.specs.Evaluation.{Env, State, holds, moved}
use Rattle.expression_lang.specs.Evaluation as E
use Rattle.expression_lang.specs.Expression as X
use Rattle.expression_lang.specs.Sort.{Level}
use Rattle.c_lang.specs.Typed as C
use Rattle.c_lang.specs.WellTyped.{has_type}
use Rattle.c_meaning.specs.CValue.{value_at, number_at, number_of_type, int_of, converted, fitted, computed, combined, compares, equates, signed_offset, divided, shifted}
use Rattle.generation.specs.Guards.{number, exp, comparison, equation, moved_by, shift, is_signed_type, computes, fits, divides, shifts, word_op_of, combine_op}
use Rattle.generation.specs.Refused.{refused}
use Rattle.generation.proofs.ExactValue.{Same, IsValueOf}
use Rattle.generation.proofs.FirstRefused.{same_weaken}
use Rattle.expression_lang.proofs.Filled.{word_fits}
use Rattle.expression_lang.proofs.Fine.{op_word, shift_word as word_shift_fits, unary_word, bits_word}
use Rattle.generation.proofs.ExactNumbers.{number_by, number_of_type_is, bits_are, same_number}
use Rattle.generation.proofs.ExactArithmetic.{sum_of_words, difference_of_words, product_of_words, negation_of_word, quotient_of_words, remainder_of_words, less_of_words, at_most_of_words}
use Rattle.generation.proofs.ExactFits.{number_value, IsFitted, fits_exact, divides_exact}
use Rattle.generation.proofs.ExactShifts.{shifts_exact}
use Rattle.generation.proofs.ExactConversions.{conversion_exact}
use Rattle.generation.proofs.ExactTruth.{scalar_bits, scalar_shaped, plain_value, truth_value}

-- a pointer that is moved is a word of addresses
pub moved_fits : (l : Layout) (p : Word) (offset : ℤ) → IsBits (address_width l.target) (moved l p offset)
moved_fits l p offset = word_fits (address_width l.target) _

-- of a signed type
as_signed : (b : Bool) (width : ℕ) (f : Bool → ℤ) → (b ≡ true → is_between (least b width) (f b) (greatest b width) ≡ true) → b ≡ true → is_between (least true width) (f true) (greatest true width) ≡ true
as_signed true width f h e = h e
as_signed false width f h e = absurd cc

module _ (l : Layout) (env : Env) (s : State) where
  -- a value at the type that is asked for
  pub at_type : (t : CType) (a : C.Expr) (v : Value) → has_type t a ≡ true → IsValueOf l env s a v → HasShape (shape_of l t) v
  at_type t a v h k = subst (λ u. HasShape (shape_of l u) v) (type_is (C.type_of a) t h) k.shaped

  -- an operand's number at its own type
  pub own_number : (a : C.Expr) (v : Value) → IsValueOf l env s a v → number_in (E.value l env s (number (C.type_of a) (exp l a))) ≡ number_of_type (C.type_of a) v
  own_number a v h = number_value l env s (C.type_of a) (exp l a) ∙ ap (number_of_type (C.type_of a)) h.is

  -- and at an integer type
  number_at_type : (i : IntType) (a : C.Expr) (v : Value) → IsValueOf l env s a v → number_in (E.value l env s (number (Integer i) (exp l a))) ≡ number_at i v
  number_at_type i a v h = number_value l env s (Integer i) (exp l a) ∙ ap (number_at i) h.is

  -- ---- one operand

  pub converted_value : (t : CType) (a : C.Expr) (v : Value) → is_scalar t ≡ true → is_scalar (C.type_of a) ≡ true → IsValueOf l env s a v → IsValueOf l env s (C.Convert t a) (converted l t (C.type_of a) v)
  converted_value t a v h k p =
      let r = conversion_exact l env s t (C.type_of a) (exp l a) v h p.is (scalar_bits l (C.type_of a) v k p.shaped) in
      plain_value l env s (C.Convert t a) (converted l t (C.type_of a) v) refl r.0 (scalar_shaped l t (converted l t (C.type_of a) v) h r.1)

  pub null_value : (t : CType) (a : C.Expr) (v : Value) → is_scalar t ≡ true → is_scalar (C.type_of a) ≡ true → IsValueOf l env s a v → IsValueOf l env s (C.ConvertNull t a) (converted l t (C.type_of a) v)
  null_value t a v h k p =
      let r = conversion_exact l env s t (C.type_of a) (exp l a) v h p.is (scalar_bits l (C.type_of a) v k p.shaped) in
      plain_value l env s (C.ConvertNull t a) (converted l t (C.type_of a) v) refl r.0 (scalar_shaped l t (converted l t (C.type_of a) v) h r.1)

  pub complement_value : (i : IntType) (a : C.Expr) (v : Value) → has_type (Integer i) a ≡ true → IsValueOf l env s a v → IsValueOf l env s (C.Complement i a) (Bits (word_unary Wnot (word_in v)))
  complement_value i a v h p =
      plain_value l env s (C.Complement i a) (Bits (word_unary Wnot (word_in v))) refl (ap (λ u. Bits (word_unary Wnot (word_in u))) p.is)
      (unary_word (width_of l.target i) Wnot (word_in v) (bits_word (width_of l.target i) v (at_type (Integer i) a v h p)))

  pub negated : (level : Level) (i : IntType) (a : C.Expr) (v : Value) → has_type (Integer i) a ≡ true → IsValueOf l env s a v →
      Same (fitted l level i (neg_ℤ (number_at i v))) (refused l env s (fits l.target level i (X.Negate (number (Integer i) (exp l a))))) (IsValueOf l env s (C.Negate i a))
  negated level i a v h p =
      let w = width_of l.target i in
      let n = neg_ℤ (number_at i v) in
      same_weaken (fitted l level i n) (refused l env s (fits l.target level i (X.Negate (number (Integer i) (exp l a))))) (IsFitted l env s i n) (IsValueOf l env s (C.Negate i a))
      (fits_exact l env s i (X.Negate (number (Integer i) (exp l a))) n (ap neg_ℤ (number_at_type i a v p)) level)
      (λ u fit. subst (IsValueOf l env s (C.Negate i a)) (sym fit.0)
      (plain_value l env s (C.Negate i a) (value_at l i n) refl
      (ap (λ x. Bits (word_unary Wneg (word_in x))) p.is
      ∙ ap Bits (negation_of_word w (some_width l.target i) (word_in v) (bits_word w v (at_type (Integer i) a v h p)) (is_signed i) (as_signed (is_signed i) w (λ b. neg_ℤ (number_by b (word_in v))) fit.1)))
      (word_fits w n)))

  shift_word : (i : IntType) (d : C.Direction) (e f : X.Exp) → IsBits (width_of l.target i) (E.value l env s e) → IsBits (width_of l.target i) (E.value l env s (shift i d e f))
  shift_word i d e f h = by_direction d
    where
      fits' : (op : ShiftOp) → IsBits (width_of l.target i) (E.value l env s (X.WordShift op e f))
      fits' op = word_shift_fits (width_of l.target i) op (word_in (E.value l env s e)) (number_in (E.value l env s f)) (bits_word (width_of l.target i) (E.value l env s e) h)

      by_sign : (b : Bool) → IsBits (width_of l.target i) (E.value l env s (cond b (X.WordShift Wsshr e f) (X.WordShift Wushr e f)))
      by_sign true = fits' Wsshr
      by_sign false = fits' Wushr

      by_direction : (d : C.Direction) → IsBits (width_of l.target i) (E.value l env s (shift i d e f))
      by_direction C.Left = fits' Wshl
      by_direction C.Right = by_sign (is_signed i)

  -- ---- two operands

  module _ (a b : C.Expr) (v w : Value) (p : IsValueOf l env s a v) (q : IsValueOf l env s b w) where
    module _ (i : IntType) (h : has_type (Integer i) a ≡ true) (k : has_type (Integer i) b ≡ true) where
      left_word : IsBits (width_of l.target i) v
      left_word = at_type (Integer i) a v h p

      right_word : IsBits (width_of l.target i) w
      right_word = at_type (Integer i) b w k q

      -- a word operation on both
      operation : (op : WordOp) → E.value l env s (X.WordBinary op (exp l a) (exp l b)) ≡ Bits (word_op op (word_in v) (word_in w))
      operation op = ap₂ (λ x y. Bits (word_op op (word_in x) (word_in y))) p.is q.is

      fitted_value : (level : Level) (op : C.Arithmetic) (e : X.Exp) (n : ℤ) → number_in (E.value l env s e) ≡ n →
          ((is_signed i ≡ true → is_of_type l.target i n ≡ true) → word_op (word_op_of op (is_signed i)) (word_in v) (word_in w) ≡ word (width_of l.target i) n) →
          Same (fitted l level i n) (refused l env s (fits l.target level i e)) (IsValueOf l env s (C.Compute op i a b))
      fitted_value level op e n h k =
          same_weaken (fitted l level i n) (refused l env s (fits l.target level i e)) (IsFitted l env s i n) (IsValueOf l env s (C.Compute op i a b)) (fits_exact l env s i e n h level)
          (λ u fit. subst (IsValueOf l env s (C.Compute op i a b)) (sym fit.0)
          (plain_value l env s (C.Compute op i a b) (value_at l i n) refl (operation (word_op_of op (is_signed i)) ∙ ap Bits (k fit.1)) (word_fits (width_of l.target i) n)))

      divided_value : (op : C.Arithmetic) (n : NumberOp) → word_op (word_op_of op (is_signed i)) (word_in v) (word_in w) ≡ word (width_of l.target i) (number_op n (number_at i v) (number_at i w)) →
          Same (divided l i n (number_at i v) (number_at i w)) (refused l env s (divides l.target i (exp l a) (exp l b))) (IsValueOf l env s (C.Compute op i a b))
      divided_value op n e =
          let m = number_op n (number_at i v) (number_at i w) in
          same_weaken (divided l i n (number_at i v) (number_at i w)) (refused l env s (divides l.target i (exp l a) (exp l b))) (λ u. u ≡ value_at l i m) (IsValueOf l env s (C.Compute op i a b))
          (divides_exact l env s i n (exp l a) (exp l b) v w p.is q.is left_word right_word)
          (λ u is. subst (IsValueOf l env s (C.Compute op i a b)) (sym is)
          (plain_value l env s (C.Compute op i a b) (value_at l i m) refl (operation (word_op_of op (is_signed i)) ∙ ap Bits e) (word_fits (width_of l.target i) m)))

      pub computed_value : (level : Level) (op : C.Arithmetic) →
          Same (computed l level i op (number_at i v) (number_at i w)) (refused l env s (computes l.target level i op (exp l a) (exp l b))) (IsValueOf l env s (C.Compute op i a b))
      computed_value level C.Add =
          let n = width_of l.target i in
          fitted_value level C.Add (X.Arith Add (number (Integer i) (exp l a)) (number (Integer i) (exp l b))) (number_at i v +ℤ number_at i w)
          (ap₂ (λ x y. x +ℤ y) (number_at_type i a v p) (number_at_type i b w q))
          (λ fit. sum_of_words n (some_width l.target i) (word_in v) (word_in w) (bits_word n v left_word) (bits_word n w right_word) (is_signed i)
          (as_signed (is_signed i) n (λ t. number_by t (word_in v) +ℤ number_by t (word_in w)) fit))
      computed_value level C.Subtract =
          let n = width_of l.target i in
          fitted_value level C.Subtract (X.Arith Sub (number (Integer i) (exp l a)) (number (Integer i) (exp l b))) (number_at i v -ℤ number_at i w)
          (ap₂ (λ x y. x -ℤ y) (number_at_type i a v p) (number_at_type i b w q))
          (λ fit. difference_of_words n (some_width l.target i) (word_in v) (word_in w) (bits_word n v left_word) (bits_word n w right_word) (is_signed i)
          (as_signed (is_signed i) n (λ t. number_by t (word_in v) -ℤ number_by t (word_in w)) fit))
      computed_value level C.Multiply =
          let n = width_of l.target i in
          fitted_value level C.Multiply (X.Arith Mul (number (Integer i) (exp l a)) (number (Integer i) (exp l b))) (number_at i v *ℤ number_at i w)
          (ap₂ (λ x y. x *ℤ y) (number_at_type i a v p) (number_at_type i b w q))
          (λ fit. product_of_words n (some_width l.target i) (word_in v) (word_in w) (bits_word n v left_word) (bits_word n w right_word) (is_signed i)
          (as_signed (is_signed i) n (λ t. number_by t (word_in v) *ℤ number_by t (word_in w)) fit))
      computed_value level C.Divide =
          let n = width_of l.target i in
          divided_value C.Divide Div (quotient_of_words n (some_width l.target i) (word_in v) (word_in w) (bits_word n v left_word) (bits_word n w right_word) (is_signed i))
      computed_value level C.Remainder =
          let n = width_of l.target i in
          divided_value C.Remainder Mod (remainder_of_words n (some_width l.target i) (word_in v) (word_in w) (bits_word n v left_word) (bits_word n w right_word) (is_signed i))

      bits_of : (op : C.Bitwise) → combined op (word_in v) (word_in w) ≡ Bits (word_op (combine_op op) (word_in v) (word_in w))
      bits_of C.BitAnd = refl
      bits_of _ = refl

      pub combined_value : (op : C.Bitwise) → IsValueOf l env s (C.Combine op i a b) (combined op (word_in v) (word_in w))
      combined_value op = subst (IsValueOf l env s (C.Combine op i a b)) (sym (bits_of op))
          (plain_value l env s (C.Combine op i a b) (Bits (word_op (combine_op op) (word_in v) (word_in w))) refl (operation (combine_op op))
          (op_word (width_of l.target i) (combine_op op) (word_in v) (word_in w) (bits_word (width_of l.target i) v left_word)))

      compares_words : (r : C.Relation) → holds l env s (comparison r (is_signed i) (exp l a) (exp l b)) ≡ compares r (number_at i v) (number_at i w)
      compares_words C.Less = less_of_words (is_signed i) _ _ ∙ ap₂ (λ x y. int_lt (number_at i x) (number_at i y)) p.is q.is
      compares_words C.LessEqual = at_most_of_words (is_signed i) _ _ ∙ ap₂ (λ x y. int_le (number_at i x) (number_at i y)) p.is q.is
      compares_words C.Greater = less_of_words (is_signed i) _ _ ∙ ap₂ (λ x y. int_lt (number_at i y) (number_at i x)) p.is q.is
      compares_words C.GreaterEqual = at_most_of_words (is_signed i) _ _ ∙ ap₂ (λ x y. int_le (number_at i y) (number_at i x)) p.is q.is

      pub compared_value : (r : C.Relation) → IsValueOf l env s (C.Compare r i a b) (int_of l (compares r (number_at i v) (number_at i w)))
      compared_value r = truth_value l env s (C.Compare r i a b) (compares r (number_at i v) (number_at i w)) refl refl (compares_words r)

    -- the left operand's type is the result's
    pub shifted_value : (i : IntType) (d : C.Direction) → has_type (Integer i) a ≡ true →
        Same (shifted l i d (number_at i v) (number_of_type (C.type_of b) w)) (refused l env s (shifts l.target i d (exp l a) (number (C.type_of b) (exp l b)))) (IsValueOf l env s (C.Shift d i a b))
    shifted_value i d h =
        let is = at_type (Integer i) a v h p in
        let n = number_of_type (C.type_of b) w in
        same_weaken (shifted l i d (number_at i v) n) (refused l env s (shifts l.target i d (exp l a) (number (C.type_of b) (exp l b)))) _ (IsValueOf l env s (C.Shift d i a b))
        (shifts_exact l env s i d (exp l a) (number (C.type_of b) (exp l b)) v n p.is is (own_number b w q))
        (λ u e. plain_value l env s (C.Shift d i a b) u refl e (subst (IsBits (width_of l.target i)) e (shift_word i d (exp l a) (number (C.type_of b) (exp l b)) (subst (IsBits (width_of l.target i)) (sym p.is) is))))

    equates_words : (t : CType) (e : C.Equality) → is_scalar t ≡ true → has_type t a ≡ true → has_type t b ≡ true → holds l env s (equation e (exp l a) (exp l b)) ≡ equates e (number_of_type t v) (number_of_type t w)
    equates_words t e h j k = by_test e
      where
        n : ℕ
        n = scalar_width l.target t

        left : IsBits n v
        left = scalar_bits l t v h (at_type t a v j p)

        right : IsBits n w
        right = scalar_bits l t w h (at_type t b w k q)

        same : same_value (E.value l env s (exp l a)) (E.value l env s (exp l b)) ≡ int_eq (number_of_type t v) (number_of_type t w)
        same =
            ap₂ same_value (p.is ∙ bits_are n v left) (q.is ∙ bits_are n w right)
            ∙ same_number (is_signed_type t) n (word_in v) (word_in w) (bits_word n v left) (bits_word n w right)
            ∙ sym (ap₂ int_eq (number_of_type_is t v) (number_of_type_is t w))

        by_test : (e : C.Equality) → holds l env s (equation e (exp l a) (exp l b)) ≡ equates e (number_of_type t v) (number_of_type t w)
        by_test C.Equal = same
        by_test C.NotEqual = ap not same

    pub equated_value : (e : C.Equality) (t : CType) → is_scalar t ≡ true → has_type t a ≡ true → has_type t b ≡ true → IsValueOf l env s (C.Equate e t a b) (int_of l (equates e (number_of_type t v) (number_of_type t w)))
    equated_value e t h j k = truth_value l env s (C.Equate e t a b) (equates e (number_of_type t v) (number_of_type t w)) refl refl (equates_words t e h j k)

    signed_number : (d : C.Sign) (n : X.Exp) → number_in (E.value l env s (moved_by d n)) ≡ signed_offset d (number_in (E.value l env s n))
    signed_number C.Plus n = refl
    signed_number C.Minus n = refl

    -- a pointer, and a number
    pub moved_value : (d : C.Sign) (t : CType) → IsValueOf l env s (C.Move d t a b) (moved l (word_in v) (pos (size_of l t) *ℤ signed_offset d (number_of_type (C.type_of b) w)))
    moved_value d t =
        plain_value l env s (C.Move d t a b) (moved l (word_in v) (pos (size_of l t) *ℤ signed_offset d (number_of_type (C.type_of b) w))) refl
        (ap₂ (λ x n. moved l (word_in x) (pos (size_of l t) *ℤ n)) p.is (signed_number d (number (C.type_of b) (exp l b)) ∙ ap (signed_offset d) (own_number b w q)))
        (moved_fits l (word_in v) (pos (size_of l t) *ℤ signed_offset d (number_of_type (C.type_of b) w)))

    -- a number, and a pointer
    pub moved_by_value : (t : CType) → IsValueOf l env s (C.MoveBy t a b) (moved l (word_in w) (pos (size_of l t) *ℤ number_of_type (C.type_of a) v))
    moved_by_value t =
        plain_value l env s (C.MoveBy t a b) (moved l (word_in w) (pos (size_of l t) *ℤ number_of_type (C.type_of a) v)) refl
        (ap₂ (λ x n. moved l (word_in x) (pos (size_of l t) *ℤ n)) q.is (own_number a v p))
        (moved_fits l (word_in w) (pos (size_of l t) *ℤ number_of_type (C.type_of a) v))
