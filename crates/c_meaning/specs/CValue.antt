-- The value of a C expression, or its first undefined step (C99 6.5, 6.3). Operands come from left to right, an operand
-- before its operation; `&&`, `||` and `?:` take only the operands that they need. Undefined here are the six hard kinds
-- of the subset's profile; a function's level adds what it watches beside them: from typed heaps on a root that no tag
-- covers, and with numbers an unsigned result that doesn't fit.
use Rattle.std.specs.Prelude.{ℕ, Bool, true, false, not, ◌&&◌, ◌||◌, List, [], ◌∷◌, Result, Ok, Err, ℤ, pos, neg_ℤ, ◌*ℤ◌, int_lt, int_le, if◌then◌else◌}
use Rattle.std.specs.Int.{int_div_euclid}
use Rattle.std.specs.Ordering.{int_eq}
use Rattle.c_values.specs.Types.{IntType, Int, CType, Integer, Ptr, width_of, is_signed, address_width}
use Rattle.c_values.specs.Number.{NumberOp, Add, Sub, Mul, Div, Mod, number_op, is_of_type}
use Rattle.c_values.specs.Word.{Word, unsigned, signed, word, word_op, word_unary, Wand, Wor, Wxor, Wnot, is_shift, power_of_two}
use Rattle.c_values.specs.Value as V
use Rattle.c_values.specs.Layout.{Layout, size_of, shape_of}
use Rattle.c_values.specs.Path.{Step, Field, Index, is_index, sel, spot}
use Rattle.c_memory.specs.Tags.{is_pointer_ok}
use Rattle.c_memory.specs.Heap.{read_heap, is_tagged}
use Rattle.expression_lang.specs.Sort.{Level, Numbers, is_lifted}
use Rattle.expression_lang.specs.Evaluation.{Env, State, moved, moved_to}
use Rattle.expression_lang.specs.GuardKind as K
use Rattle.c_lang.specs.Typed as C

-- what C expressions are evaluated in
pub record Context : Type 0 where
  pub layout : Layout
  -- of the function that it stands in
  pub level : Level
  pub locals : Env
  pub state : State

abbrev pub Defined : Type 0 → Type 0
Defined A = Result A K.GuardKind

infixl 10 ◌>>=◌
abbrev pub ◌>>=◌ : {A B : Type 0} → Defined A → (A → Defined B) → Defined B
(Ok a) >>= f = f a
(Err k) >>= f = Err k

-- undefined unless the test holds
abbrev pub unless : {A : Type 0} → Bool → K.GuardKind → Defined A → Defined A
unless true k r = r
unless false k r = Err k

-- the number that a word is at a type; a pointer is unsigned
abbrev pub number_at : IntType → V.Value → ℤ
number_at i v = if is_signed i then signed (V.word_in v) else unsigned (V.word_in v)

abbrev pub number_of_type : CType → V.Value → ℤ
number_of_type (Integer i) v = number_at i v
number_of_type _ v = unsigned (V.word_in v)

abbrev pub value_at : Layout → IntType → ℤ → V.Value
value_at l i n = V.Bits (word (width_of l.target i) n)

-- 1 or 0, an int
abbrev pub int_of : Layout → Bool → V.Value
int_of l b = value_at l Int (if b then pos 1 else pos 0)

-- of a scalar: it isn't zero
abbrev pub is_true : V.Value → Bool
is_true v = not (int_eq (unsigned (V.word_in v)) (pos 0))

-- to the bits of a scalar type; a pointer counts as the unsigned type of its width
abbrev pub converted : Layout → CType → CType → V.Value → V.Value
converted l (Integer i) from v = V.Bits (word (width_of l.target i) (number_of_type from v))
converted l (Ptr t) from v = V.Bits (word (address_width l.target) (number_of_type from v))
converted l to from v = v

abbrev pub number_op_of : C.Arithmetic → NumberOp
number_op_of C.Add = Add
number_op_of C.Subtract = Sub
number_op_of C.Multiply = Mul
number_op_of C.Divide = Div
number_op_of C.Remainder = Mod

-- a signed result that isn't of the type is undefined; an unsigned one wraps, which numbers watch
abbrev pub fitted : Layout → Level → IntType → ℤ → Defined V.Value
fitted l Numbers i n = unless (is_of_type l.target i n) (if is_signed i then K.Signed else K.Wrap) (Ok (value_at l i n))
fitted l level i n = unless (is_of_type l.target i n || not (is_signed i)) K.Signed (Ok (value_at l i n))

-- of a quotient or a remainder the divisor isn't zero, and the quotient is of the type
abbrev pub divided : Layout → IntType → NumberOp → ℤ → ℤ → Defined V.Value
divided l i op a b = unless (not (int_eq b (pos 0))) K.Div (unless (is_of_type l.target i (number_op Div a b)) K.Signed (Ok (value_at l i (number_op op a b))))

abbrev pub computed : Layout → Level → IntType → C.Arithmetic → ℤ → ℤ → Defined V.Value
computed l level i C.Divide a b = divided l i Div a b
computed l level i C.Remainder a b = divided l i Mod a b
computed l level i op a b = fitted l level i (number_op (number_op_of op) a b)

abbrev pub combined : C.Bitwise → Word → Word → V.Value
combined C.BitAnd a b = V.Bits (word_op Wand a b)
combined C.BitOr a b = V.Bits (word_op Wor a b)
combined C.BitXor a b = V.Bits (word_op Wxor a b)

-- The count is from 0 to the width, less one. A signed value that is shifted left isn't negative, and its result fits. A
-- negative value is shifted right arithmetically.
abbrev pub shifted : Layout → IntType → C.Direction → ℤ → ℤ → Defined V.Value
shifted l i C.Left a n =
    unless (is_shift (width_of l.target i) n) K.Shift
    (unless (not (is_signed i) || (int_le (pos 0) a && is_of_type l.target i (a *ℤ power_of_two n))) K.Shift
    (Ok (value_at l i (a *ℤ power_of_two n))))
shifted l i C.Right a n = unless (is_shift (width_of l.target i) n) K.Shift (Ok (value_at l i (int_div_euclid a (power_of_two n))))

abbrev pub compares : C.Relation → ℤ → ℤ → Bool
compares C.Less a b = int_lt a b
compares C.LessEqual a b = int_le a b
compares C.Greater a b = int_lt b a
compares C.GreaterEqual a b = int_le b a

abbrev pub equates : C.Equality → ℤ → ℤ → Bool
equates C.Equal a b = int_eq a b
equates C.NotEqual a b = not (int_eq a b)

abbrev pub signed_offset : C.Sign → ℤ → ℤ
signed_offset C.Plus n = n
signed_offset C.Minus n = neg_ℤ n

-- where a place is: at a root in memory, or in a global, and the steps from there
pub data Located : Type 0 where
  InMemory : CType → Word → List Step → Located
  InGlobal : List ℕ → List Step → Located

-- each index is of an element that is there
abbrev pub are_in_bounds : C.Path → List Step → Bool
are_in_bounds (C.Member k path) (p ∷ ps) = are_in_bounds path ps
are_in_bounds (C.Element n e path) (Index i ∷ ps) = is_index i n && are_in_bounds path ps
are_in_bounds _ _ = true

-- a root that may be accessed: aligned, not null, inside the space; and from typed heaps on covered by a tag
abbrev pub accessible : {A : Type 0} → Context → Located → Defined A → Defined A
accessible c (InMemory t p ps) r =
    unless (is_pointer_ok c.layout t p.bits) K.Pointer (unless (not (is_lifted c.level) || is_tagged c.layout c.state.heap t p.bits) K.Tag r)
accessible c (InGlobal x ps) r = r

-- what lies there
abbrev pub content : Context → Located → V.Value
content c (InMemory t p ps) = read_heap c.layout c.state.heap t p.bits ps
content c (InGlobal x ps) = sel (c.state.globals x) ps

-- the address of a place; a typed unit asks for none in a global, where it has the content in its stead
abbrev pub address_of : Context → Located → V.Value
address_of c (InMemory t p ps) = moved_to c.layout p (spot (shape_of c.layout t) ps)
address_of c (InGlobal x ps) = content c (InGlobal x ps)

abbrev mutual
  pub value : Context → C.Expr → Defined V.Value
  value c (C.Constant i n) = Ok (value_at c.layout i n)
  value c (C.Local x t) = Ok (c.locals x)
  value c (C.Value p) = located c p >>= λ s. accessible c s (Ok (content c s))
  value c (C.Convert t a) = value c a >>= λ v. Ok (converted c.layout t (C.type_of a) v)
  value c (C.ConvertNull t a) = value c a >>= λ v. Ok (converted c.layout t (C.type_of a) v)
  value c (C.Negate i a) = value c a >>= λ v. fitted c.layout c.level i (neg_ℤ (number_at i v))
  value c (C.Complement i a) = value c a >>= λ v. Ok (V.Bits (word_unary Wnot (V.word_in v)))
  value c (C.Compute op i a b) = value c a >>= λ v. value c b >>= λ w. computed c.layout c.level i op (number_at i v) (number_at i w)
  value c (C.Combine op i a b) = value c a >>= λ v. value c b >>= λ w. Ok (combined op (V.word_in v) (V.word_in w))
  value c (C.Shift d i a b) = value c a >>= λ v. value c b >>= λ w. shifted c.layout i d (number_at i v) (number_of_type (C.type_of b) w)
  value c (C.Compare r i a b) = value c a >>= λ v. value c b >>= λ w. Ok (int_of c.layout (compares r (number_at i v) (number_at i w)))
  value c (C.Equate q t a b) = value c a >>= λ v. value c b >>= λ w. Ok (int_of c.layout (equates q (number_of_type t v) (number_of_type t w)))
  value c (C.Not a) = value c a >>= λ v. Ok (int_of c.layout (not (is_true v)))
  value c (C.And a b) = value c a >>= λ v. if is_true v then (value c b >>= λ w. Ok (int_of c.layout (is_true w))) else Ok (int_of c.layout false)
  value c (C.Or a b) = value c a >>= λ v. if is_true v then Ok (int_of c.layout true) else (value c b >>= λ w. Ok (int_of c.layout (is_true w)))
  value c (C.Choose t e a b) = value c e >>= λ v. if is_true v then value c a else value c b
  value c (C.Move s t p a) = value c p >>= λ v. value c a >>= λ w. Ok (moved c.layout (V.word_in v) (pos (size_of c.layout t) *ℤ signed_offset s (number_of_type (C.type_of a) w)))
  value c (C.MoveBy t a p) = value c a >>= λ w. value c p >>= λ v. Ok (moved c.layout (V.word_in v) (pos (size_of c.layout t) *ℤ number_of_type (C.type_of a) w))
  value c (C.Address p t) = located c p >>= λ s. Ok (address_of c s)
  value c (C.Decay p t) = located c p >>= λ s. Ok (address_of c s)

  -- the root pointer, then each index, then the bounds of each
  pub located : Context → C.Place → Defined Located
  located c (C.Through t p path u) = value c p >>= λ v. indexed c path >>= λ ps. unless (are_in_bounds path ps) K.Bounds (Ok (InMemory t (V.word_in v) ps))
  located c (C.InGlobal x path u) = indexed c path >>= λ ps. unless (are_in_bounds path ps) K.Bounds (Ok (InGlobal x ps))

  -- an index is a number of its own type
  pub indexed : Context → C.Path → Defined (List Step)
  indexed c C.Here = Ok []
  indexed c (C.Member k path) = indexed c path >>= λ ps. Ok (Field k ∷ ps)
  indexed c (C.Element n e path) = value c e >>= λ v. indexed c path >>= λ ps. Ok (Index (number_of_type (C.type_of e) v) ∷ ps)

-- the values of arguments, in order
abbrev pub values : Context → List C.Expr → Defined (List V.Value)
values c [] = Ok []
values c (e ∷ es) = value c e >>= λ v. values c es >>= λ vs. Ok (v ∷ vs)
