-- The value of a constant expression (C99 6.6): every operand is a constant, taken or not, and no step is undefined. A
-- pointer that is made of constants is one; what is read through it isn't.
use Rattle.std.specs.Prelude.{ℕ, ◌^◌, nat_le, Bool, true, false, not, ◌&&◌, Option, Some, None, option_and_then, ℤ, pos, neg_ℤ, int_lt, int_le, if◌then◌else◌}
use Rattle.std.specs.Option.{option_map}
use Rattle.std.specs.Ordering.{int_eq}
use Rattle.c_values.specs.Types.{IntType, CType, Integer, width_of, is_signed, address_width}
use Rattle.c_values.specs.Number.{Add, Sub, Mul, Div, Mod, number_op, is_of_type}
use Rattle.c_values.specs.Word.{Word, WordOp, unsigned, signed, word, word_op, word_unary, word_shift, Wadd, Wsub, Wmul, Wand, Wor, Wxor, Wudiv, Wumod, Wneg, Wnot, Wshl, Wushr, Wsshr, is_shift, power_of_two}
use Rattle.c_values.specs.Layout.{Layout, Shape, Incomplete, size, size_of, shape_of, is_complete, is_object, largest_size}
use Rattle.c_values.specs.Path.{Spot, Field, Index, is_index}
use Rattle.c_values.specs.StepInto.{step_into}
use Rattle.c_lang.specs.Typed as C

abbrev mutual
  -- each operand is a constant
  pub is_constant : C.Expr → Bool
  is_constant (C.Constant i n) = true
  is_constant (C.Local x t) = false
  is_constant (C.Value p) = false
  is_constant (C.Convert t a) = is_constant a
  is_constant (C.ConvertNull t a) = is_constant a
  is_constant (C.Negate i a) = is_constant a
  is_constant (C.Complement i a) = is_constant a
  is_constant (C.Compute op i a b) = is_constant a && is_constant b
  is_constant (C.Combine op i a b) = is_constant a && is_constant b
  is_constant (C.Shift d i a b) = is_constant a && is_constant b
  is_constant (C.Compare r i a b) = is_constant a && is_constant b
  is_constant (C.Equate q t a b) = is_constant a && is_constant b
  is_constant (C.Not a) = is_constant a
  is_constant (C.And a b) = is_constant a && is_constant b
  is_constant (C.Or a b) = is_constant a && is_constant b
  is_constant (C.Choose t c a b) = is_constant c && is_constant a && is_constant b
  is_constant (C.Move s t p a) = is_constant p && is_constant a
  is_constant (C.MoveBy t a p) = is_constant a && is_constant p
  is_constant (C.Address p t) = is_constant_place p
  is_constant (C.Decay p t) = is_constant_place p

  -- the address is one
  pub is_constant_place : C.Place → Bool
  is_constant_place (C.Through t p path u) = is_constant p && is_constant_path path
  is_constant_place (C.InGlobal x path u) = false

  pub is_constant_path : C.Path → Bool
  is_constant_path C.Here = true
  is_constant_path (C.Member k path) = is_constant_path path
  is_constant_path (C.Element n e path) = is_constant e && is_constant_path path

-- the bits of a number at a type, and of an address
abbrev pub bits_at : Layout → IntType → ℤ → Word
bits_at l i n = word (width_of l.target i) n

abbrev pub address_bits : Layout → ℤ → Word
address_bits l n = word (address_width l.target) n

-- the number that a word is at a type
abbrev pub at_type : IntType → Word → ℤ
at_type i w = if is_signed i then signed w else unsigned w

-- a number converted to a scalar type; a pointer is unsigned
abbrev pub number_at : Layout → CType → ℤ → ℤ
number_at l (Integer i) n = at_type i (bits_at l i n)
number_at l _ n = unsigned (address_bits l n)

-- a result that is of the type
abbrev pub exact : Layout → IntType → ℤ → Option ℤ
exact l i n = if is_of_type l.target i n then Some n else None

-- a result modulo 2 to the width
abbrev pub wrapped : Layout → IntType → WordOp → ℤ → ℤ → ℤ
wrapped l i op a b = at_type i (word_op op (bits_at l i a) (bits_at l i b))

abbrev pub negated : Layout → IntType → ℤ → Option ℤ
negated l i a = if is_signed i then exact l i (neg_ℤ a) else Some (at_type i (word_unary Wneg (bits_at l i a)))

abbrev pub complement : Layout → IntType → ℤ → ℤ
complement l i a = at_type i (word_unary Wnot (bits_at l i a))

abbrev pub is_true : ℤ → Bool
is_true n = not (int_eq n (pos 0))

-- by zero there is none
abbrev pub divided : ℤ → Option ℤ → Option ℤ
divided b r = if is_true b then r else None

-- signed results are of the type; of a remainder the quotient is too
abbrev pub computed_signed : Layout → C.Arithmetic → IntType → ℤ → ℤ → Option ℤ
computed_signed l C.Add i a b = exact l i (number_op Add a b)
computed_signed l C.Subtract i a b = exact l i (number_op Sub a b)
computed_signed l C.Multiply i a b = exact l i (number_op Mul a b)
computed_signed l C.Divide i a b = divided b (exact l i (number_op Div a b))
computed_signed l C.Remainder i a b =
    divided b (option_and_then (λ q. exact l i (number_op Mod a b)) (exact l i (number_op Div a b)))

abbrev pub computed_unsigned : Layout → C.Arithmetic → IntType → ℤ → ℤ → Option ℤ
computed_unsigned l C.Add i a b = Some (wrapped l i Wadd a b)
computed_unsigned l C.Subtract i a b = Some (wrapped l i Wsub a b)
computed_unsigned l C.Multiply i a b = Some (wrapped l i Wmul a b)
computed_unsigned l C.Divide i a b = divided b (Some (wrapped l i Wudiv a b))
computed_unsigned l C.Remainder i a b = divided b (Some (wrapped l i Wumod a b))

abbrev pub computed : Layout → C.Arithmetic → IntType → ℤ → ℤ → Option ℤ
computed l op i a b = if is_signed i then computed_signed l op i a b else computed_unsigned l op i a b

abbrev pub combined : Layout → C.Bitwise → IntType → ℤ → ℤ → ℤ
combined l C.BitAnd i a b = wrapped l i Wand a b
combined l C.BitOr i a b = wrapped l i Wor a b
combined l C.BitXor i a b = wrapped l i Wxor a b

-- a signed value that is shifted left isn't negative, and its result fits
abbrev pub shifted_left : Layout → IntType → ℤ → ℤ → Option ℤ
shifted_left l i a n =
    if is_signed i then (if int_lt a (pos 0) then None else exact l i (number_op Mul a (power_of_two n)))
    else Some (at_type i (word_shift Wshl (bits_at l i a) n))

-- a negative value is shifted right arithmetically
abbrev pub shifted_right : Layout → IntType → ℤ → ℤ → ℤ
shifted_right l i a n =
    if is_signed i then at_type i (word_shift Wsshr (bits_at l i a) n)
    else at_type i (word_shift Wushr (bits_at l i a) n)

abbrev pub shifts : Layout → C.Direction → IntType → ℤ → ℤ → Option ℤ
shifts l C.Left i a n = shifted_left l i a n
shifts l C.Right i a n = Some (shifted_right l i a n)

-- the count is from 0 to the width, less one
abbrev pub shifted : Layout → C.Direction → IntType → ℤ → ℤ → Option ℤ
shifted l d i a n = if is_shift (width_of l.target i) n then shifts l d i a n else None

abbrev pub compares : C.Relation → ℤ → ℤ → Bool
compares C.Less a b = int_lt a b
compares C.LessEqual a b = int_le a b
compares C.Greater a b = int_lt b a
compares C.GreaterEqual a b = int_le b a

abbrev pub equates : C.Equality → ℤ → ℤ → Bool
equates C.Equal a b = int_eq a b
equates C.NotEqual a b = not (int_eq a b)

-- 1 or 0
abbrev pub truth : Bool → ℤ
truth b = pos (if b then 1 else 0)

-- the bytes of an object; 0 of anything else
abbrev pub stride : Layout → CType → ℕ
stride l t = if is_object l t then size_of l t else 0

abbrev pub sign_op : C.Sign → WordOp
sign_op C.Plus = Wadd
sign_op C.Minus = Wsub

-- an address that moves by so many objects
abbrev pub moved : Layout → C.Sign → CType → ℤ → ℤ → ℤ
moved l s t p n =
    unsigned (word_op (sign_op s) (address_bits l p) (word_op Wmul (address_bits l (pos (stride l t))) (address_bits l n)))

-- and by bytes
abbrev pub moved_by : Layout → ℤ → ℤ → ℤ
moved_by l p n = unsigned (word_op Wadd (address_bits l p) (address_bits l n))

-- the shape of an object; of anything else one that has no parts
abbrev pub object_in : Shape → Shape
object_in s = if is_complete s && nat_le (size s) largest_size then s else Incomplete

-- one step into an object; no array has more elements than there are numbers of 32 bits
abbrev pub member_into : Shape → ℕ → Option Spot
member_into s k = step_into (object_in s) (Field k)

abbrev pub element_into : Shape → ℤ → Option Spot
element_into s i = if is_index i (2 ^ 32) then step_into (object_in s) (Index i) else None

abbrev mutual
  -- as a number; none where a step is undefined, or an operand that is taken is no constant
  pub folded : Layout → C.Expr → Option ℤ
  folded l (C.Constant i n) = Some n
  folded l (C.Local x t) = None
  folded l (C.Value p) = None
  folded l (C.Convert t a) = option_map (number_at l t) (folded l a)
  folded l (C.ConvertNull t a) = option_map (number_at l t) (folded l a)
  folded l (C.Negate i a) = option_and_then (λ n. negated l i n) (folded l a)
  folded l (C.Complement i a) = option_map (complement l i) (folded l a)
  folded l (C.Compute op i a b) = option_and_then (λ m. option_and_then (λ n. computed l op i m n) (folded l b)) (folded l a)
  folded l (C.Combine op i a b) = option_and_then (λ m. option_map (λ n. combined l op i m n) (folded l b)) (folded l a)
  folded l (C.Shift d i a b) = option_and_then (λ m. option_and_then (λ n. shifted l d i m n) (folded l b)) (folded l a)
  folded l (C.Compare r i a b) = option_and_then (λ m. option_map (λ n. truth (compares r m n)) (folded l b)) (folded l a)
  folded l (C.Equate q t a b) = option_and_then (λ m. option_map (λ n. truth (equates q m n)) (folded l b)) (folded l a)
  folded l (C.Not a) = option_map (λ n. truth (not (is_true n))) (folded l a)
  folded l (C.And a b) = option_and_then (λ m. if is_true m then option_map (λ n. truth (is_true n)) (folded l b) else Some (pos 0)) (folded l a)
  folded l (C.Or a b) = option_and_then (λ m. if is_true m then Some (pos 1) else option_map (λ n. truth (is_true n)) (folded l b)) (folded l a)
  folded l (C.Choose t c a b) = option_and_then (λ m. if is_true m then folded l a else folded l b) (folded l c)
  folded l (C.Move s t p a) = option_and_then (λ m. option_map (λ n. moved l s t m n) (folded l a)) (folded l p)
  folded l (C.MoveBy t a p) = option_and_then (λ n. option_map (λ m. moved l C.Plus t m n) (folded l p)) (folded l a)
  folded l (C.Address p t) = address l p
  folded l (C.Decay p t) = address l p

  pub address : Layout → C.Place → Option ℤ
  address l (C.Through t p path u) = option_and_then (λ m. reached l path (shape_of l t) m) (folded l p)
  address l (C.InGlobal x path u) = None

  -- where a path leads from an address at which there is such a shape; each index is of an element that is there
  pub reached : Layout → C.Path → Shape → ℤ → Option ℤ
  reached l C.Here s m = Some m
  reached l (C.Member k path) s m = option_and_then (λ q. reached l path q.shape (moved_by l m q.offset)) (member_into s k)
  reached l (C.Element n e path) s m =
      option_and_then (λ i. option_and_then (λ q. reached l path q.shape (moved_by l m q.offset)) (element_into s i)) (folded l e)

-- the value of a constant expression
abbrev pub constant_value : Layout → C.Expr → Option ℤ
constant_value l e = if is_constant e then folded l e else None
