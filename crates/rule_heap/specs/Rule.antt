-- The rules that take programs on bytes to programs on typed heaps, by name, and what they claim: of programs and of
-- expressions.
use Rattle.std.specs.Prelude.{List}
use Rattle.expression_lang.specs.Expression.{Exp}
use Rattle.ac_expr.specs.Fact.{Fact}
use Rattle.monad_lang.specs.Program.{Mon}

pub data Rule : Type 0 where
  -- of programs
  Ret : Rule
  Bind : Rule
  Guard : Rule
  If : Rule
  Global : Rule
  Loop : Rule
  Call : Rule
  Pick : Rule
  Write : Rule
  Pointer : Rule
  -- with the right side of the address
  Drop : Exp → Rule
  Same : Rule
  -- of expressions
  Leaf : Rule
  Load : Rule
  Tagged : Rule
  PtrOk : Rule
  Op : Rule
  And : Rule
  Or : Rule
  Imp : Rule
  Cond : Rule
  -- with the right side of the address
  Known : Exp → Rule

-- where the facts hold, the right side on the typed heaps that view a memory is the left side on that memory
pub data Claim : Type 0 where
  OfProgram : List Fact → Mon → Mon → Claim
  OfExp : List Fact → Exp → Exp → Claim
