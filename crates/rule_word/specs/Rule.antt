-- The rules that make numbers of words, by name, and what they claim. A view says how a value is seen on the right: as it is, where
-- it has this sort, or a word of a width by its unsigned or its signed value. A point of a program has the facts that are known
-- there, of the right side, and the names in scope with the kinds that they have on the right.
use Rattle.std.specs.Prelude.{ℕ, List, Option}
use Rattle.c_values.specs.Layout.{Layout, GlobalVar}
use Rattle.expression_lang.specs.Expression.{Exp}
use Rattle.ac_expr.specs.Fact.{Fact}
use Rattle.expression_lang.specs.Sort.{Sort, Kind}
use Rattle.expression_lang.specs.Signature.{Binder, Signature}
use Rattle.monad_lang.specs.Program.{Mon}

pub data Rule : Type 0 where
  -- of programs
  Ret : Rule
  Guard : Rule
  If : Rule
  Global : Rule
  Pick : Rule
  Write : Rule
  -- with the kinds of the names
  Bind : List Kind → Rule
  Loop : List Kind → Rule
  Call : Rule
  PickNat : Rule
  PickInt : Rule
  -- with the kinds before
  Recast : List Kind → Rule
  -- of expressions
  Var : Rule
  Const : Rule
  Nat : Rule
  Int : Rule
  Word : Kind → Rule
  Unat : Rule
  Sint : Rule
  Add : Rule
  Sub : Rule
  Mul : Rule
  Neg : Rule
  Udiv : Rule
  Umod : Rule
  Sdiv : Rule
  Smod : Rule
  Order : Rule
  Eq : Kind → Rule
  Zext : Rule
  Sext : Rule
  Logic : Rule
  Cond : Rule
  Op : Rule

-- what is the same all over a unit: its layout, its globals, and its functions with the kinds that they have on the right
pub record Context : Type 0 where
  pub layout : Layout
  pub globals : List GlobalVar
  pub functions : List Signature

pub record Point : Type 0 where
  pub facts : List Fact
  pub names : List Binder

pub data View : Type 0 where
  AsIs : Option Sort → View
  Unsigned : ℕ → View
  Signed : ℕ → View

-- at this point the right side is the left side seen so; or it does what the left side does, and gives its values at these kinds
pub data Claim : Type 0 where
  expression : Point → Exp → View → Exp → Claim
  program : Point → Mon → Mon → List Kind → Claim
