-- Simpl commands as plain trees (Schirmer, Verification of Sequential Imperative Programs in Isabelle/HOL), cut to the
-- commands that generation makes.
use Rattle.std.specs.Prelude.{List, [], ◌∷◌, Option, Some, None, if◌then◌else◌}
use Rattle.c_values.specs.Name.{Name, same_name}
use Rattle.c_values.specs.Types.{CType}
use Rattle.c_values.specs.Program.{function_named}
use Rattle.c_values.specs.Layout.{Layout, GlobalVar}
use Rattle.expression_lang.specs.GuardKind.{GuardKind}
use Rattle.expression_lang.specs.Expression.{Exp, Path}
use Rattle.expression_lang.specs.Sort.{Level, Kind}
use Rattle.expression_lang.specs.Signature.{Binder, Signature}

-- a condition that has to hold, and what it is about
pub record Condition : Type 0 where
  pub kind : GuardKind
  pub exp : Exp

pub data Simpl : Type 0 where
  Skip : Simpl
  Throw : Simpl
  Set : Name → Exp → Simpl
  SetGlobal : Name → Path → Exp → Simpl
  Store : CType → Exp → Path → Exp → Simpl
  -- the local takes any value of its sort
  Pick : Name → Simpl
  Seq : Simpl → Simpl → Simpl
  Cond : Exp → Simpl → Simpl → Simpl
  Guard : Condition → Simpl → Simpl
  Catch : Simpl → Simpl → Simpl
  -- the conditions, in order, before each test
  While : List Condition → Exp → Simpl → Simpl
  -- where the result goes, the function, and its arguments
  Call : Option Name → Name → List Exp → Simpl

pub record SimplFn : Type 0 where
  pub name : Name
  -- the parameters first
  pub locals : List Binder
  pub level : Level
  pub body : Simpl

pub record SimplUnit : Type 0 where
  pub layout : Layout
  pub globals : List GlobalVar
  pub functions : List SimplFn
  -- one for each function, in the same order
  pub signatures : List Signature

abbrev pub simpl_fn : List SimplFn → Name → Option SimplFn
simpl_fn = function_named (λ f. f.name)

abbrev pub kind_of : List Binder → Name → Option Kind
kind_of [] x = None
kind_of (b ∷ bs) x = if same_name b.name x then Some b.kind else kind_of bs x
