-- The conditions of arithmetic: a result of the type, and a divisor that isn't zero.
use Rattle.std.proofs.Common.{◌≡◌, ℕ, ◌-◌, ◌^◌, ◌<◌, Bool, true, false, not, ◌||◌, [], ◌∷◌, None, Ok, cond, ℤ, pos, int_eq, refl, sym, ap, ap₂, ◌∙◌, subst, arith}
use Rattle.std.proofs.lemmas.Int.{ints}
use Rattle.std.proofs.Math.Bool.{or-false, or-true}
use Rattle.c_values.specs.Types.{IntType, CType, Integer, width_of, is_signed}
use Rattle.c_values.specs.Number.{is_between, least, greatest, is_of_type, quotient, NumberOp, Div, number_op}
use Rattle.c_values.specs.Word.{Word, IsWord, unsigned, signed, word, word_op, Wudiv}
use Rattle.c_values.specs.Value.{Value, Bits, word_in, number_in, same_value}
use Rattle.c_values.specs.Layout.{Layout}
use Rattle.c_values.specs.Path.{IsBits}
use Rattle.c_values.proofs.WordResults.{unsigned_quotient}
use Rattle.c_values.proofs.Widths.{some_width}
use Rattle.expression_lang.specs.Evaluation.{Env, State, holds}
use Rattle.expression_lang.specs.Evaluation as E
use Rattle.expression_lang.specs.Expression as X
use Rattle.expression_lang.specs.Sort.{Level, Bytes, Words, Numbers}
use Rattle.expression_lang.specs.GuardKind.{GuardKind}
use Rattle.expression_lang.specs.GuardKind as K
use Rattle.expression_lang.proofs.Fine.{op_word, bits_word}
use Rattle.c_meaning.specs.CValue.{unless, value_at, number_at, number_of_type, fitted, divided}
use Rattle.generation.specs.Guards.{when, word_of, number, in_type, fits, divides}
use Rattle.generation.specs.Refused.{refused}
use Rattle.generation.proofs.ExactValue.{Same}
use Rattle.generation.proofs.FirstRefused.{same_unless}
use Rattle.generation.proofs.ExactNumbers.{number_by, same_as_number, zero_between}

-- a test that holds
same_holds : {A : Type 0} (t : Bool) (k : GuardKind) (a : A) (Q : A → Type 0) → t ≡ true → Q a → Same (unless t k (Ok a)) None Q
same_holds true k a Q h q = (refl, q)
same_holds false k a Q h q = absurd cc

below_whole : (m p : ℕ) → m < p → is_between (pos 0) (pos m) (pos (p - 1)) ≡ true
below_whole m p h = grind (arith, ints)

pub unsigned_in_range : (width : ℕ) (a : Word) → IsWord width a → is_between (least false width) (unsigned a) (greatest false width) ≡ true
unsigned_in_range width a h = below_whole a.bits (2 ^ width) h.fits

module _ (l : Layout) (env : Env) (s : State) where
  -- the number of a word at its type
  pub number_value : (t : CType) (e : X.Exp) → number_in (E.value l env s (number t e)) ≡ number_of_type t (E.value l env s e)
  number_value (Integer i) e = by_sign (is_signed i)
    where
      by_sign : (b : Bool) → number_in (E.value l env s (cond b (X.ToInt e) (X.ToNat e))) ≡ number_by b (word_in (E.value l env s e))
      by_sign true = refl
      by_sign false = refl
  number_value _ _ = refl

  -- the value of a type, of a number that is of it where the type is signed
  abbrev pub IsFitted : IntType → ℤ → Value → Type 0
  IsFitted i n v = (v ≡ value_at l i n) × (is_signed i ≡ true → is_of_type l.target i n ≡ true)

  module _ (i : IntType) (e : X.Exp) (n : ℤ) (h : number_in (E.value l env s e) ≡ n) where
    in_type_holds : holds l env s (in_type l.target i e) ≡ is_of_type l.target i n
    in_type_holds = ap (is_of_type l.target i) h

    -- where numbers are watched too
    watched : (b : Bool) → Same (unless (is_of_type l.target i n) (cond b K.Signed K.Wrap) (Ok (value_at l i n)))
        (refused l env s (cond b (when K.Signed (in_type l.target i e) ∷ []) (when K.Wrap (in_type l.target i e) ∷ [])))
        (λ v. (v ≡ value_at l i n) × (b ≡ true → is_of_type l.target i n ≡ true))
    watched true = same_unless l env s (is_of_type l.target i n) K.Signed (in_type l.target i e) [] (Ok (value_at l i n)) (λ v. (v ≡ value_at l i n) × (true ≡ true → is_of_type l.target i n ≡ true)) in_type_holds (λ t. (refl, (refl, λ u. t)))
    watched false = same_unless l env s (is_of_type l.target i n) K.Wrap (in_type l.target i e) [] (Ok (value_at l i n)) (λ v. (v ≡ value_at l i n) × (false ≡ true → is_of_type l.target i n ≡ true)) in_type_holds (λ t. (refl, (refl, λ u. t)))

    plainly : (b : Bool) → Same (unless (is_of_type l.target i n || not b) K.Signed (Ok (value_at l i n)))
        (refused l env s (cond b (when K.Signed (in_type l.target i e) ∷ []) []))
        (λ v. (v ≡ value_at l i n) × (b ≡ true → is_of_type l.target i n ≡ true))
    plainly true =
        same_unless l env s (is_of_type l.target i n || false) K.Signed (in_type l.target i e) [] (Ok (value_at l i n)) (λ v. (v ≡ value_at l i n) × (true ≡ true → is_of_type l.target i n ≡ true))
        (in_type_holds ∙ sym (or-false (is_of_type l.target i n))) (λ t. (refl, (refl, λ u. sym (or-false (is_of_type l.target i n)) ∙ t)))
    plainly false =
        same_holds (is_of_type l.target i n || true) K.Signed (value_at l i n) (λ v. (v ≡ value_at l i n) × (false ≡ true → is_of_type l.target i n ≡ true)) (or-true (is_of_type l.target i n)) (refl, λ u. absurd cc)

    pub fits_exact : (level : Level) → Same (fitted l level i n) (refused l env s (fits l.target level i e)) (IsFitted i n)
    fits_exact Numbers = watched (is_signed i)
    fits_exact Bytes = plainly (is_signed i)
    fits_exact Words = plainly (is_signed i)

  -- a divisor that isn't zero
  pub some_divisor : (i : IntType) (e : X.Exp) (v : Value) → E.value l env s e ≡ v → IsBits (width_of l.target i) v →
      holds l env s (X.Not (X.Eq e (word_of l.target i (pos 0)))) ≡ not (int_eq (number_at i v) (pos 0))
  some_divisor i e v h k =
      ap (λ u. not (same_value u (Bits (word (width_of l.target i) (pos 0))))) h
      ∙ ap not (same_as_number (is_signed i) (width_of l.target i) v (pos 0) (some_width l.target i) k (zero_between (is_signed i) (width_of l.target i)))

  -- a quotient of the type
  quotient_fits : (width : ℕ) (b : Bool) (e f : X.Exp) (v w : Value) (u : Value) → E.value l env s e ≡ v → E.value l env s f ≡ w → IsBits width v → IsBits width w →
      Same (unless (is_between (least b width) (quotient (number_by b (word_in v)) (number_by b (word_in w))) (greatest b width)) K.Signed (Ok u))
      (refused l env s (cond b (when K.Signed (X.Between (least b width) (X.Arith Div (X.ToInt e) (X.ToInt f)) (greatest b width)) ∷ []) [])) (λ r. r ≡ u)
  quotient_fits width true e f v w u h k p q =
      same_unless l env s (is_between (least true width) (quotient (signed (word_in v)) (signed (word_in w))) (greatest true width)) K.Signed
      (X.Between (least true width) (X.Arith Div (X.ToInt e) (X.ToInt f)) (greatest true width)) [] (Ok u) (λ r. r ≡ u)
      (ap₂ (λ x y. is_between (least true width) (quotient (signed (word_in x)) (signed (word_in y))) (greatest true width)) h k) (λ t. (refl, refl))
  quotient_fits width false e f v w u h k p q =
      let a = word_in v in
      let b = word_in w in
      let p' = bits_word width v p in
      let q' = bits_word width w q in
      same_holds (is_between (least false width) (quotient (unsigned a) (unsigned b)) (greatest false width)) K.Signed u (λ r. r ≡ u)
      (subst (λ n. is_between (least false width) n (greatest false width) ≡ true) (unsigned_quotient width a b p' q')
      (unsigned_in_range width (word_op Wudiv a b) (op_word width Wudiv a b p'))) refl

  pub divides_exact : (i : IntType) (op : NumberOp) (e f : X.Exp) (v w : Value) → E.value l env s e ≡ v → E.value l env s f ≡ w → IsBits (width_of l.target i) v → IsBits (width_of l.target i) w →
      Same (divided l i op (number_at i v) (number_at i w)) (refused l env s (divides l.target i e f)) (λ u. u ≡ value_at l i (number_op op (number_at i v) (number_at i w)))
  divides_exact i op e f v w h k p q =
      let u = value_at l i (number_op op (number_at i v) (number_at i w)) in
      same_unless l env s (not (int_eq (number_at i w) (pos 0))) K.Div (X.Not (X.Eq f (word_of l.target i (pos 0))))
      (cond (is_signed i) (when K.Signed (in_type l.target i (X.Arith Div (X.ToInt e) (X.ToInt f))) ∷ []) [])
      (unless (is_of_type l.target i (quotient (number_at i v) (number_at i w))) K.Signed (Ok u)) (λ r. r ≡ u)
      (some_divisor i f w k q) (λ t. quotient_fits (width_of l.target i) (is_signed i) e f v w u h k p q)
