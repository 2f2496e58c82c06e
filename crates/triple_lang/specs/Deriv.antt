-- The rules by which a program is shown to give what an assertion says, by name, and what they claim: Hoare's rules, of a monadic
-- program. A tree of them has trees of the rules of assertions in it.
use Rattle.std.specs.Prelude.{ℕ, Bool, List, Option}
use Rattle.c_values.specs.Name.{Name}
use Rattle.expression_lang.specs.Expression.{Exp}
use Rattle.expression_lang.specs.Sort.{Scalar}
use Rattle.ac_expr.specs.Fact.{Fact}
use Rattle.monad_lang.specs.Program.{Mon, FinalUnit}
use Rattle.exactness.specs.Triple.{Assertions}
use Rattle.triple_lang.specs.Entail as E

pub data Rule : Type 0 where
  -- a rule of assertions
  Shows : E.Rule → Rule
  -- with what the values make of the postcondition
  Ret : Exp → Rule
  -- with what holds between the two
  Bind : Exp → Rule
  Guard : Rule
  If : Rule
  -- with the invariant, what it says of the first values, and what the postcondition says of the last
  Loop : Exp → Exp → Exp → Rule
  -- with the triple's position, the values of its logical variables, what it asks, and what it gives
  Call : ℕ → List Exp → Exp → Exp → Rule
  Pick : Rule
  -- with what the postcondition says before an object of a typed heap is written
  Write : Exp → Rule
  -- and before a global is
  Gset : Exp → Rule

-- what derivations of a function's program stand on: the unit, whether the function is on typed heaps, and the triples
pub record Ground : Type 0 where
  pub unit : FinalUnit
  pub lifted : Bool
  pub triples : List Assertions

abbrev pub Names : Type 0
Names = Name → Option Scalar

pub data Claim : Type 0 where
  -- with these names in scope, from the facts the assertion follows
  entailed : Names → List Fact → Exp → Claim
  -- where the facts hold, the program doesn't fail, and what it gives meets the assertion, under these names
  derived : Names → List Fact → Mon → List Name → Exp → Claim
