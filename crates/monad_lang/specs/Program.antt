-- Monadic programs as plain trees: the nondeterministic state monad with failure of AutoCorres (Greenaway's thesis, after
-- Cock, Klein and Sewell), with values, a heap and globals.
use Rattle.std.specs.Prelude.{List, Option}
use Rattle.c_values.specs.Name.{Name}
use Rattle.c_values.specs.Types.{CType}
use Rattle.c_values.specs.Program.{Program, function_named}
use Rattle.expression_lang.specs.Expression.{Exp, Path}
use Rattle.expression_lang.specs.Sort.{Level, Kind}
use Rattle.expression_lang.specs.Signature.{Binder}

-- what is written: bytes, a typed heap, or a global
pub data Place : Type 0 where
  Stored : CType → Exp → Path → Place
  Written : CType → Exp → Path → Place
  Global : Name → Path → Place

-- a name and the expression that it begins with
pub record Start : Type 0 where
  pub name : Name
  pub exp : Exp

pub data Mon : Type 0 where
  -- gives the values
  Ret : List Exp → Mon
  -- the first, its values under these names, and then the second
  Bind : Mon → List Name → Mon → Mon
  -- fails where the expression is false
  Guard : Exp → Mon
  If : Exp → Mon → Mon → Mon
  Write : Place → Exp → Mon
  -- names with their start expressions, a guard and a test before each turn, and a body that gives the next values
  Loop : List Start → Exp → Exp → Mon → Mon
  Call : Name → List Exp → Mon
  -- any value of the kind
  Pick : Kind → Mon

pub record FinalFn : Type 0 where
  pub name : Name
  pub level : Level
  pub params : List Binder
  pub results : List Kind
  pub body : Mon

abbrev pub FinalUnit : Type 0
FinalUnit = Program FinalFn

abbrev pub final_fn : List FinalFn → Name → Option FinalFn
final_fn = function_named (λ f. f.name)
