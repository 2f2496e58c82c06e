-- Generation, for expressions (after Norrish's C parser): what stands for the value and the truth of a C expression, and
-- which conditions have to hold first, in order. The conditions of operands come before those of the operation.
use Rattle.std.specs.Prelude.{ℕ, ◌-◌, ◌==◌, nat_lt, Bool, false, List, [], ◌∷◌, ◌++◌, ℤ, pos, if◌then◌else◌}
use Rattle.c_values.specs.Types.{Target, IntType, CType, Integer, Ptr, width_of, is_signed}
use Rattle.c_values.specs.Number.{Add, Sub, Mul, Div, least_of, greatest_of}
use Rattle.c_values.specs.Word.{word, WordOp, Wadd, Wsub, Wmul, Wand, Wor, Wxor, Wudiv, Wumod, Wsdiv, Wsmod, Wshl, Wushr, Wsshr, Wneg, Wnot, Wult, Wule, Wslt, Wsle}
use Rattle.c_values.specs.Layout.{Layout, scalar_width}
use Rattle.expression_lang.specs.Expression as E
use Rattle.expression_lang.specs.Sort.{Level, Numbers, is_lifted}
use Rattle.expression_lang.specs.GuardKind.{GuardKind}
use Rattle.simpl_lang.specs.Command.{Condition}
use Rattle.expression_lang.specs.GuardKind as K
use Rattle.c_lang.specs.Typed as C

abbrev pub when : GuardKind → E.Exp → Condition
when k e = record { kind = k; exp = e }

abbrev pub word_of : Target → IntType → ℤ → E.Exp
word_of t i n = E.WordLit (word (width_of t i) n)

abbrev pub int_literal : ℤ → E.Exp
int_literal n = E.WordLit (word 32 n)

abbrev pub is_signed_type : CType → Bool
is_signed_type (Integer i) = is_signed i
is_signed_type t = false

-- the number that a word is at its type
abbrev pub number : CType → E.Exp → E.Exp
number t e = if is_signed_type t then E.ToInt e else E.ToNat e

-- to another width, by the source's sign; the same width stays
abbrev pub cast_to : ℕ → ℕ → Bool → E.Exp → E.Exp
cast_to to from is_signed' e =
    if to == from then e else (if nat_lt to from then E.Cast E.Trunc to e else (if is_signed' then E.Cast E.Sext to e else E.Cast E.Zext to e))

abbrev pub conversion : Target → CType → CType → E.Exp → E.Exp
conversion t to from e = cast_to (scalar_width t to) (scalar_width t from) (is_signed_type from) e

abbrev pub word_op_of : C.Arithmetic → Bool → WordOp
word_op_of C.Add s = Wadd
word_op_of C.Subtract s = Wsub
word_op_of C.Multiply s = Wmul
word_op_of C.Divide s = if s then Wsdiv else Wudiv
word_op_of C.Remainder s = if s then Wsmod else Wumod

abbrev pub in_type : Target → IntType → E.Exp → E.Exp
in_type t i n = E.Between (least_of t i) n (greatest_of t i)

abbrev pub combine_op : C.Bitwise → WordOp
combine_op C.BitAnd = Wand
combine_op C.BitOr = Wor
combine_op C.BitXor = Wxor

-- a result is of the type: of signed types always, of unsigned ones where numbers are abstract
abbrev pub fits : Target → Level → IntType → E.Exp → List Condition
fits t level i n = if is_signed i then when K.Signed (in_type t i n) ∷ [] else unsigned_fits level
  where
    unsigned_fits : Level → List Condition
    unsigned_fits Numbers = when K.Wrap (in_type t i n) ∷ []
    unsigned_fits _ = []

abbrev pub divides : Target → IntType → E.Exp → E.Exp → List Condition
divides t i a b =
    when K.Div (E.Not (E.Eq b (word_of t i (pos 0)))) ∷ (if is_signed i then when K.Signed (in_type t i (E.Arith Div (E.ToInt a) (E.ToInt b))) ∷ [] else [])

abbrev pub computes : Target → Level → IntType → C.Arithmetic → E.Exp → E.Exp → List Condition
computes t level i C.Add a b = fits t level i (E.Arith Add (number (Integer i) a) (number (Integer i) b))
computes t level i C.Subtract a b = fits t level i (E.Arith Sub (number (Integer i) a) (number (Integer i) b))
computes t level i C.Multiply a b = fits t level i (E.Arith Mul (number (Integer i) a) (number (Integer i) b))
computes t level i C.Divide a b = divides t i a b
computes t level i C.Remainder a b = divides t i a b

-- a shift by the number n
abbrev pub shifts : Target → IntType → C.Direction → E.Exp → E.Exp → List Condition
shifts t i C.Left a n =
    when K.Shift (E.Between (pos 0) n (pos (width_of t i - 1)))
    ∷ (if is_signed i then when K.Shift (E.Between (pos 0) (E.ToInt a) (greatest_of t i)) ∷ when K.Shift (E.Le (E.ToInt a) (E.ToInt (E.WordShift Wsshr (word_of t i (greatest_of t i)) n))) ∷ [] else [])
shifts t i C.Right a n = when K.Shift (E.Between (pos 0) n (pos (width_of t i - 1))) ∷ []

abbrev pub shift : IntType → C.Direction → E.Exp → E.Exp → E.Exp
shift i C.Left a n = E.WordShift Wshl a n
shift i C.Right a n = if is_signed i then E.WordShift Wsshr a n else E.WordShift Wushr a n

abbrev pub comparison : C.Relation → Bool → E.Exp → E.Exp → E.Exp
comparison C.Less s a b = E.WordCompare (if s then Wslt else Wult) a b
comparison C.LessEqual s a b = E.WordCompare (if s then Wsle else Wule) a b
comparison C.Greater s a b = E.WordCompare (if s then Wslt else Wult) b a
comparison C.GreaterEqual s a b = E.WordCompare (if s then Wsle else Wule) b a

abbrev pub equation : C.Equality → E.Exp → E.Exp → E.Exp
equation C.Equal a b = E.Eq a b
equation C.NotEqual a b = E.Not (E.Eq a b)

abbrev pub is_not_zero : Target → CType → E.Exp → E.Exp
is_not_zero t u e = E.Not (E.Eq e (E.WordLit (word (scalar_width t u) (pos 0))))

-- an int of a truth value
abbrev pub of_truth : E.Exp → E.Exp
of_truth b = E.If b (int_literal (pos 1)) (int_literal (pos 0))

abbrev pub moved_by : C.Sign → E.Exp → E.Exp
moved_by C.Plus n = n
moved_by C.Minus n = E.Negate n

-- each condition under another
abbrev pub under : E.Exp → List Condition → List Condition
under c [] = []
under c (g ∷ gs) = when g.kind (E.Imp c g.exp) ∷ under c gs

-- what stands for the value of an expression, and for its truth
pub record Reading : Type 0 where
  pub value : E.Exp
  pub truth : E.Exp

-- a scalar of the type is true where it isn't zero
abbrev pub as_value : Target → CType → E.Exp → Reading
as_value t u e = record { value = e; truth = is_not_zero t u e }

-- the value of a test is an int
abbrev pub as_test : E.Exp → Reading
as_test b = record { value = of_truth b; truth = b }

abbrev mutual
  pub reading : Layout → C.Expr → Reading
  reading l (C.Constant i n) = as_value l.target (Integer i) (word_of l.target i n)
  reading l (C.Local x t) = as_value l.target t (E.Var x)
  reading l (C.Value p) = as_value l.target (C.place_type p) (content l p)
  reading l (C.Convert t a) = as_value l.target t (conversion l.target t (C.type_of a) (reading l a).value)
  reading l (C.ConvertNull t a) = as_value l.target t (conversion l.target t (C.type_of a) (reading l a).value)
  reading l (C.Negate i a) = as_value l.target (Integer i) (E.WordUnary Wneg (reading l a).value)
  reading l (C.Complement i a) = as_value l.target (Integer i) (E.WordUnary Wnot (reading l a).value)
  reading l (C.Compute op i a b) = as_value l.target (Integer i) (E.WordBinary (word_op_of op (is_signed i)) (reading l a).value (reading l b).value)
  reading l (C.Combine op i a b) = as_value l.target (Integer i) (E.WordBinary (combine_op op) (reading l a).value (reading l b).value)
  reading l (C.Shift d i a b) = as_value l.target (Integer i) (shift i d (reading l a).value (number (C.type_of b) (reading l b).value))
  reading l (C.Compare r i a b) = as_test (comparison r (is_signed i) (reading l a).value (reading l b).value)
  reading l (C.Equate q t a b) = as_test (equation q (reading l a).value (reading l b).value)
  reading l (C.Not a) = as_test (E.Not (reading l a).truth)
  reading l (C.And a b) = as_test (E.And (reading l a).truth (reading l b).truth)
  reading l (C.Or a b) = as_test (E.Or (reading l a).truth (reading l b).truth)
  reading l (C.Choose t c a b) = as_value l.target t (E.If (reading l c).truth (reading l a).value (reading l b).value)
  reading l (C.Move s t p a) = as_value l.target (Ptr t) (E.Padd t (reading l p).value (moved_by s (number (C.type_of a) (reading l a).value)))
  reading l (C.MoveBy t a p) = as_value l.target (Ptr t) (E.Padd t (reading l p).value (number (C.type_of a) (reading l a).value))
  reading l (C.Address p t) = as_value l.target (Ptr t) (address l p)
  reading l (C.Decay p t) = as_value l.target (Ptr t) (address l p)

  -- what lies at a place
  pub content : Layout → C.Place → E.Exp
  content l (C.Through t p path u) = E.Load t (reading l p).value (path_of l path)
  content l (C.InGlobal x path u) = E.Global x (path_of l path)

  pub address : Layout → C.Place → E.Exp
  address l (C.Through t p path u) = E.At t (reading l p).value (path_of l path)
  address l (C.InGlobal x path u) = E.Global x (path_of l path)

  pub path_of : Layout → C.Path → E.Path
  path_of l C.Here = E.Here
  path_of l (C.Member k path) = E.IntoField k (path_of l path)
  path_of l (C.Element n e path) = E.IntoElement (number (C.type_of e) (reading l e).value) (path_of l path)

abbrev pub exp : Layout → C.Expr → E.Exp
exp l e = (reading l e).value

abbrev pub truth : Layout → C.Expr → E.Exp
truth l e = (reading l e).truth

-- the bounds of each index of a path, in order
abbrev pub bounds : Layout → C.Path → List Condition
bounds l C.Here = []
bounds l (C.Member k path) = bounds l path
bounds l (C.Element n e path) = when K.Bounds (E.Between (pos 0) (number (C.type_of e) (exp l e)) (pos (n - 1))) ∷ bounds l path

-- the root of an access
abbrev pub accesses : Layout → Level → C.Place → List Condition
accesses l level (C.Through t p path u) = when K.Pointer (E.PtrOk t (exp l p)) ∷ (if is_lifted level then when K.Tag (E.Tagged t (exp l p)) ∷ [] else [])
accesses l level (C.InGlobal x path u) = []

abbrev mutual
  -- what has to hold before the expression has a value, in order
  pub guards : Layout → Level → C.Expr → List Condition
  guards l level (C.Constant i n) = []
  guards l level (C.Local x t) = []
  guards l level (C.Value p) = place_guards l level p ++ accesses l level p
  guards l level (C.Convert t a) = guards l level a
  guards l level (C.ConvertNull t a) = guards l level a
  guards l level (C.Negate i a) = guards l level a ++ fits l.target level i (E.Negate (number (Integer i) (exp l a)))
  guards l level (C.Complement i a) = guards l level a
  guards l level (C.Compute op i a b) = guards l level a ++ guards l level b ++ computes l.target level i op (exp l a) (exp l b)
  guards l level (C.Combine op i a b) = guards l level a ++ guards l level b
  guards l level (C.Shift d i a b) = guards l level a ++ guards l level b ++ shifts l.target i d (exp l a) (number (C.type_of b) (exp l b))
  guards l level (C.Compare r i a b) = guards l level a ++ guards l level b
  guards l level (C.Equate q t a b) = guards l level a ++ guards l level b
  guards l level (C.Not a) = guards l level a
  guards l level (C.And a b) = guards l level a ++ under (truth l a) (guards l level b)
  guards l level (C.Or a b) = guards l level a ++ under (E.Not (truth l a)) (guards l level b)
  guards l level (C.Choose t c a b) = guards l level c ++ under (truth l c) (guards l level a) ++ under (E.Not (truth l c)) (guards l level b)
  guards l level (C.Move s t p a) = guards l level p ++ guards l level a
  guards l level (C.MoveBy t a p) = guards l level a ++ guards l level p
  guards l level (C.Address p t) = place_guards l level p
  guards l level (C.Decay p t) = place_guards l level p

  -- the root pointer's and each index's, and then the bounds of each index
  pub place_guards : Layout → Level → C.Place → List Condition
  place_guards l level (C.Through t p path u) = guards l level p ++ index_guards l level path ++ bounds l path
  place_guards l level (C.InGlobal x path u) = index_guards l level path ++ bounds l path

  pub index_guards : Layout → Level → C.Path → List Condition
  index_guards l level C.Here = []
  index_guards l level (C.Member k path) = index_guards l level path
  index_guards l level (C.Element n e path) = guards l level e ++ index_guards l level path

abbrev pub exps : Layout → List C.Expr → List E.Exp
exps l [] = []
exps l (e ∷ es) = exp l e ∷ exps l es

abbrev pub argument_guards : Layout → Level → List C.Expr → List Condition
argument_guards l level [] = []
argument_guards l level (e ∷ es) = guards l level e ++ argument_guards l level es
