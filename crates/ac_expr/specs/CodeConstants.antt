-- The value of an expression of constants alone, as the code computes it: words, whole numbers and truth values, as far as 128 bits
-- go. There is none where some part isn't such a value, or isn't of the sort that is asked for.
use Rattle.std.specs.Prelude.{ℕ, ◌==◌, ◌^◌, nat_le, nat_lt, Bool, not, ◌&&◌, ◌||◌, Option, Some, None, ℤ, pos, neg_ℤ, ◌*ℤ◌, int_lt, int_le, unsigned_abs, if◌then◌else◌}
use Rattle.c_values.specs.Types.{CType, address_width}
use Rattle.c_values.specs.Word.{Word, WordOp, WordTest, unsigned, signed, word, word_op, word_shift, word_unary, word_test}
use Rattle.c_values.specs.Number.{number_op, is_between}
use Rattle.c_values.specs.Value.{Value, Bits, Number, Truth, same_value}
use Rattle.c_values.specs.Layout.{Layout, Shape, space, size_of, shape_of, is_object}
use Rattle.c_values.specs.Path.{Field, Index, step_spot}
use Rattle.c_memory.specs.Memory.{address_at}
use Rattle.c_memory.specs.CodePlace.{Place, place_from}
use Rattle.c_memory.specs.Tags.{is_pointer_ok}
use Rattle.expression_lang.specs.Expression.{Exp, WordLit, NumberLit, TruthLit, WordBinary, WordShift, WordUnary, WordCompare, Cast, ToNat, ToInt, ToWord, Arith, Negate, Lt, Le, Between, Eq, And, Or, Imp, Not, If, Padd, At, PtrOk, Path, Here, IntoField, IntoElement}
use Rattle.expression_lang.specs.Evaluation.{cast_op, if_truth}
use Rattle.expression_lang.specs.Sort.{is_width}
use Rattle.ac_expr.specs.Step.{constant}

abbrev pub of_one : Option Value → (Value → Option Value) → Option Value
of_one None f = None
of_one (Some v) f = f v

abbrev pub of_two : Option Value → Option Value → (Value → Value → Option Value) → Option Value
of_two None p f = None
of_two (Some v) None f = None
of_two (Some v) (Some w) f = f v w

-- where the value is one of these
abbrev pub by_word : (Word → Option Value) → Value → Option Value
by_word f (Bits w) = f w
by_word f _ = None

abbrev pub by_number : (ℤ → Option Value) → Value → Option Value
by_number f (Number n) = f n
by_number f _ = None

abbrev pub by_truth : (Bool → Option Value) → Value → Option Value
by_truth f (Truth b) = f b
by_truth f _ = None

abbrev pub by_words : (Word → Word → Option Value) → Value → Value → Option Value
by_words f (Bits v) (Bits w) = if v.width == w.width then f v w else None
by_words f _ _ = None

abbrev pub by_numbers : (ℤ → ℤ → Option Value) → Value → Value → Option Value
by_numbers f (Number m) (Number n) = f m n
by_numbers f _ _ = None

abbrev pub by_truths : (Bool → Bool → Bool) → Value → Value → Option Value
by_truths f (Truth a) (Truth b) = Some (Truth (f a b))
by_truths f _ _ = None

-- a number of 128 bits
abbrev pub narrow : ℤ → Option Value
narrow n = if nat_le (2 ^ 128) (unsigned_abs n) then None else Some (Number n)

abbrev pub test_words : WordTest → Word → Word → Option Value
test_words op v w = Some (Truth (word_test op v w))

abbrev pub join_words : WordOp → Word → Word → Option Value
join_words op v w = Some (Bits (word_op op v w))

abbrev pub of_width : ℕ → Word → Option Value
of_width width w = if is_width width then Some (Bits w) else None

-- the address of a pointer
abbrev pub address_of : Layout → Value → Option ℕ
address_of l (Bits w) = if (w.width == address_width l.target) && nat_lt w.bits (space l) then Some w.bits else None
address_of l _ = None

abbrev pub at_address : Option ℕ → (ℕ → Option Value) → Option Value
at_address None f = None
at_address (Some a) f = f a

abbrev pub by_address : Layout → (ℕ → Option Value) → Value → Option Value
by_address l f v = at_address (address_of l v) f

abbrev pub pointer : Layout → ℕ → Option Value
pointer l a = Some (Bits (record { width = address_width l.target; bits = a }))

abbrev pub moved_by : Layout → CType → ℕ → ℤ → Option Value
moved_by l t a n = if is_object l t then pointer l (address_at (space l) a (n *ℤ pos (size_of l t))) else None

abbrev pub object_ok : Layout → CType → ℕ → Option Value
object_ok l t a = if is_object l t then Some (Truth (is_pointer_ok l t a)) else None

abbrev pub at_place : Option Place → (Shape → ℕ → Option Value) → Option Value
at_place None f = None
at_place (Some q) f = f q.shape q.address

-- an index
abbrev pub number_of : Option Value → Option ℤ
number_of (Some (Number n)) = Some n
number_of _ = None

abbrev pub at_index : Option ℤ → (ℤ → Option Value) → Option Value
at_index None f = None
at_index (Some n) f = f n

abbrev mutual
  pub computed : Layout → Exp → Option Value
  computed l (WordLit w) = Some (Bits w)
  computed l (NumberLit n) = narrow n
  computed l (TruthLit b) = Some (Truth b)
  computed l (WordBinary op a b) = of_two (computed l a) (computed l b) (by_words (join_words op))
  computed l (WordShift op a n) =
      of_two (computed l a) (computed l n) (λ v k. by_word (λ w. by_number (λ z. Some (Bits (word_shift op w z))) k) v)
  computed l (WordUnary op a) = of_one (computed l a) (by_word (λ w. Some (Bits (word_unary op w))))
  computed l (WordCompare op a b) = of_two (computed l a) (computed l b) (by_words (test_words op))
  computed l (Cast op width a) = of_one (computed l a) (by_word (λ w. of_width width (cast_op op width w)))
  computed l (ToNat a) = of_one (computed l a) (by_word (λ w. narrow (unsigned w)))
  computed l (ToInt a) = of_one (computed l a) (by_word (λ w. narrow (signed w)))
  computed l (ToWord width a) = of_one (computed l a) (by_number (λ n. of_width width (word width n)))
  computed l (Arith op a b) = of_two (computed l a) (computed l b) (by_numbers (λ m n. narrow (number_op op m n)))
  computed l (Negate a) = of_one (computed l a) (by_number (λ n. narrow (neg_ℤ n)))
  computed l (Lt a b) = of_two (computed l a) (computed l b) (by_numbers (λ m n. Some (Truth (int_lt m n))))
  computed l (Le a b) = of_two (computed l a) (computed l b) (by_numbers (λ m n. Some (Truth (int_le m n))))
  computed l (Between low a high) = of_one (computed l a) (by_number (λ n. Some (Truth (is_between low n high))))
  computed l (Eq a b) = of_two (computed l a) (computed l b) (λ v w. Some (Truth (same_value v w)))
  computed l (And a b) = of_two (computed l a) (computed l b) (by_truths (λ x y. x && y))
  computed l (Or a b) = of_two (computed l a) (computed l b) (by_truths (λ x y. x || y))
  computed l (Imp a b) = of_two (computed l a) (computed l b) (by_truths (λ x y. not x || y))
  computed l (Not a) = of_one (computed l a) (by_truth (λ x. Some (Truth (not x))))
  computed l (If c a b) =
      of_one (computed l c) (by_truth (λ x. of_two (computed l a) (computed l b) (λ v w. Some (if_truth x v w))))
  computed l (Padd t p n) =
      of_two (computed l p) (computed l n) (λ v k. by_address l (λ a. by_number (moved_by l t a) k) v)
  computed l (At t p path) =
      of_one (computed l p) (by_address l (λ a. if is_object l t then computed_at l path (shape_of l t) a else None))
  computed l (PtrOk t p) = of_one (computed l p) (by_address l (object_ok l t))
  computed l _ = None

  -- the address at the end of a path
  pub computed_at : Layout → Path → Shape → ℕ → Option Value
  computed_at l Here s a = pointer l a
  computed_at l (IntoField k path) s a =
      at_place (place_from (space l) a (step_spot s (Field k))) (λ q b. computed_at l path q b)
  computed_at l (IntoElement e path) s a =
      at_index (number_of (computed l e))
      (λ n. at_place (place_from (space l) a (step_spot s (Index n))) (λ q b. computed_at l path q b))

-- the constant that a value is
abbrev pub as_constant : Option Value → Option Exp
as_constant None = None
as_constant (Some v) = constant v
