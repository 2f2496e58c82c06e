-- The value of an expression in an environment and a state, by recursion on the expression. Every expression has one: what is
-- out of range, not covered or divided by zero has a value that the tables of words, numbers and heaps give. Numbers have no
-- limit here; the code says where 128 bits don't do.
use Rattle.std.specs.Prelude.{ℕ, Bool, true, false, not, ◌&&◌, ◌||◌, List, [], ◌∷◌, Option, Some, None, ℤ, pos, neg_ℤ, ◌*ℤ◌, int_lt, int_le}
use Rattle.c_values.specs.Name.{Name}
use Rattle.c_values.specs.Types.{address_width}
use Rattle.c_values.specs.Word.{Word, unsigned, signed, word, word_op, word_shift, word_unary, word_test, cast}
use Rattle.c_values.specs.Number.{number_op, is_between}
use Rattle.c_values.specs.Value.{Value, Bits, Number, Truth, word_in, number_in, truth_in, same_value}
use Rattle.c_values.specs.Layout.{Layout, space, size_of, shape_of}
use Rattle.c_values.specs.Path.{Step, Field, Index, Spot, spot, sel, upd}
use Rattle.c_memory.specs.Memory.{address_at}
use Rattle.c_memory.specs.Tags.{is_pointer_ok}
use Rattle.c_memory.specs.Heap.{Heap, read_heap, is_tagged}
use Rattle.expression_lang.specs.Expression.{Exp, Var, WordLit, NumberLit, TruthLit, WordBinary, WordShift, WordUnary, WordCompare, Cast, ToNat, ToInt, ToWord, Arith, Negate, Lt, Le, Between, Eq, And, Or, Imp, Not, If, Padd, At, Load, Read, Tagged, PtrOk, Global, Sel, Upd, Path, Here, IntoField, IntoElement, CastOp, Zext, Sext, Trunc}

abbrev pub Env : Type 0
Env = Name → Value

pub record State : Type 0 where
  pub heap : Heap
  pub globals : Name → Value

abbrev pub cast_op : CastOp → ℕ → Word → Word
cast_op Zext = cast false
cast_op Sext = cast true
cast_op Trunc = cast false

-- a pointer moved by so many bytes
abbrev pub moved : Layout → Word → ℤ → Value
moved l p offset = Bits (record { width = address_width l.target; bits = address_at (space l) p.bits offset })

abbrev pub moved_to : Layout → Word → Option Spot → Value
moved_to l p None = Bits p
moved_to l p (Some q) = moved l p q.offset

abbrev pub if_truth : Bool → Value → Value → Value
if_truth true a b = a
if_truth false a b = b

abbrev mutual
  pub value : Layout → Env → State → Exp → Value
  value l env s (Var x) = env x
  value l env s (WordLit w) = Bits w
  value l env s (NumberLit n) = Number n
  value l env s (TruthLit b) = Truth b
  value l env s (WordBinary op a b) = Bits (word_op op (word_in (value l env s a)) (word_in (value l env s b)))
  value l env s (WordShift op a n) = Bits (word_shift op (word_in (value l env s a)) (number_in (value l env s n)))
  value l env s (WordUnary op a) = Bits (word_unary op (word_in (value l env s a)))
  value l env s (WordCompare op a b) = Truth (word_test op (word_in (value l env s a)) (word_in (value l env s b)))
  value l env s (Cast op width a) = Bits (cast_op op width (word_in (value l env s a)))
  value l env s (ToNat a) = Number (unsigned (word_in (value l env s a)))
  value l env s (ToInt a) = Number (signed (word_in (value l env s a)))
  value l env s (ToWord width a) = Bits (word width (number_in (value l env s a)))
  value l env s (Arith op a b) = Number (number_op op (number_in (value l env s a)) (number_in (value l env s b)))
  value l env s (Negate a) = Number (neg_ℤ (number_in (value l env s a)))
  value l env s (Lt a b) = Truth (int_lt (number_in (value l env s a)) (number_in (value l env s b)))
  value l env s (Le a b) = Truth (int_le (number_in (value l env s a)) (number_in (value l env s b)))
  value l env s (Between low a high) = Truth (is_between low (number_in (value l env s a)) high)
  value l env s (Eq a b) = Truth (same_value (value l env s a) (value l env s b))
  value l env s (And a b) = Truth (truth_in (value l env s a) && truth_in (value l env s b))
  value l env s (Or a b) = Truth (truth_in (value l env s a) || truth_in (value l env s b))
  value l env s (Imp a b) = Truth (not (truth_in (value l env s a)) || truth_in (value l env s b))
  value l env s (Not a) = Truth (not (truth_in (value l env s a)))
  value l env s (If c a b) = if_truth (truth_in (value l env s c)) (value l env s a) (value l env s b)
  value l env s (Padd t p n) = moved l (word_in (value l env s p)) (pos (size_of l t) *ℤ number_in (value l env s n))
  value l env s (At t p path) = moved_to l (word_in (value l env s p)) (spot (shape_of l t) (steps l env s path))
  value l env s (Load t p path) = read_heap l s.heap t (word_in (value l env s p)).bits (steps l env s path)
  value l env s (Read t p path) = read_heap l s.heap t (word_in (value l env s p)).bits (steps l env s path)
  value l env s (Tagged t p) = Truth (is_tagged l s.heap t (word_in (value l env s p)).bits)
  value l env s (PtrOk t p) = Truth (is_pointer_ok l t (word_in (value l env s p)).bits)
  value l env s (Global x path) = sel (s.globals x) (steps l env s path)
  value l env s (Sel e path) = sel (value l env s e) (steps l env s path)
  value l env s (Upd e path v) = upd (value l env s e) (steps l env s path) (value l env s v)

  -- the steps that a path takes
  pub steps : Layout → Env → State → Path → List Step
  steps l env s Here = []
  steps l env s (IntoField k path) = Field k ∷ steps l env s path
  steps l env s (IntoElement e path) = Index (number_in (value l env s e)) ∷ steps l env s path

-- whether an expression holds
abbrev pub holds : Layout → Env → State → Exp → Bool
holds l env s e = truth_in (value l env s e)
