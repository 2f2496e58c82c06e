-- Expressions as plain trees, one case for each row of the language's table of expressions (docs/PROGRAMS.md): C's words and
-- addresses, the numbers that stand for them, and both kinds of heap. The code's trees have pointers; these have none.
use Rattle.std.specs.Prelude.{ℕ, ℤ, Bool}
use Rattle.c_values.specs.Name.{Name}
use Rattle.c_values.specs.Types.{CType}
use Rattle.c_values.specs.Word.{Word, WordOp, ShiftOp, UnaryOp, WordTest}
use Rattle.c_values.specs.Number.{NumberOp}

-- to a larger width by the unsigned or the signed value, or to a smaller one
pub data CastOp : Type 0 where
  Zext : CastOp
  Sext : CastOp
  Trunc : CastOp

mutual
  pub data Exp : Type 0 where
    Var : Name → Exp
    WordLit : Word → Exp
    NumberLit : ℤ → Exp
    TruthLit : Bool → Exp
    WordBinary : WordOp → Exp → Exp → Exp
    -- a word, shifted by a number
    WordShift : ShiftOp → Exp → Exp → Exp
    WordUnary : UnaryOp → Exp → Exp
    WordCompare : WordTest → Exp → Exp → Exp
    Cast : CastOp → ℕ → Exp → Exp
    -- the unsigned and the signed value of a word
    ToNat : Exp → Exp
    ToInt : Exp → Exp
    -- a number modulo 2 to a width
    ToWord : ℕ → Exp → Exp
    Arith : NumberOp → Exp → Exp → Exp
    Negate : Exp → Exp
    Lt : Exp → Exp → Exp
    Le : Exp → Exp → Exp
    Between : ℤ → Exp → ℤ → Exp
    Eq : Exp → Exp → Exp
    And : Exp → Exp → Exp
    Or : Exp → Exp → Exp
    Imp : Exp → Exp → Exp
    Not : Exp → Exp
    If : Exp → Exp → Exp → Exp
    -- a pointer and so many objects of a type
    Padd : CType → Exp → Exp → Exp
    -- the address of a path from a root
    At : CType → Exp → Path → Exp
    Load : CType → Exp → Path → Exp
    Read : CType → Exp → Path → Exp
    Tagged : CType → Exp → Exp
    PtrOk : CType → Exp → Exp
    Global : Name → Path → Exp
    -- a part, by one step, and a value with the part at a path replaced: in assertions alone
    Sel : Exp → Path → Exp
    Upd : Exp → Path → Exp → Exp

  -- a path: nothing more, or a member, or an element, and then a path
  pub data Path : Type 0 where
    Here : Path
    IntoField : ℕ → Path → Path
    IntoElement : Exp → Path → Path
