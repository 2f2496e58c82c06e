-- What functions take and give, and calls of them.
use Rattle.std.specs.Prelude.{List, [], ◌∷◌, Option, Some, None, if◌then◌else◌}
use Rattle.c_values.specs.Name.{Name, same_name, with_name}
use Rattle.c_values.specs.Value.{Value, nothing}
use Rattle.c_values.specs.Types.{Target, CType, Integer, is_signed, width_of}
use Rattle.c_values.specs.Layout.{Layout, scalar_width}
use Rattle.expression_lang.specs.Expression.{Exp}
use Rattle.expression_lang.specs.Sort.{Level, Numbers, Kind, WordKind, NatKind, IntKind}
use Rattle.expression_lang.specs.Evaluation.{Env, State, value}

-- a name with its kind
pub record Binder : Type 0 where
  pub name : Name
  pub kind : Kind

-- what a function takes and gives
pub record Signature : Type 0 where
  pub name : Name
  pub level : Level
  pub params : List Binder
  pub result : Option Kind

abbrev pub names_of : List Binder → List Name
names_of [] = []
names_of (b ∷ bs) = b.name ∷ names_of bs

abbrev pub kinds_of : List Binder → List Kind
kinds_of [] = []
kinds_of (b ∷ bs) = b.kind ∷ kinds_of bs

abbrev pub signature : List Signature → Name → Option Signature
signature [] x = None
signature (f ∷ fs) x = if same_name f.name x then Some f else signature fs x

-- a call of a function of the unit
pub record Invocation : Type 0 where
  pub name : Name
  pub arguments : List Value
  pub state : State

abbrev pub values_of : Layout → Env → State → List Exp → List Value
values_of l env s [] = []
values_of l env s (e ∷ es) = value l env s e ∷ values_of l env s es

-- the values under the names
abbrev pub bound : List Name → List Value → Env → Env
bound (x ∷ xs) (v ∷ vs) env = bound xs vs (with_name x v env)
bound _ _ env = env

-- no name has a value
abbrev pub no_env : Env
no_env x = nothing

-- A name's kind at a level: numbers stand for integers at the level of numbers alone, by their sign; pointers are words.
abbrev pub kind_at : Target → Level → CType → Kind
kind_at t Numbers (Integer i) = if is_signed i then IntKind (width_of t i) else NatKind (width_of t i)
kind_at t level u = WordKind (scalar_width t u)

abbrev pub binder : Name → Kind → Binder
binder x k = record { name = x; kind = k }

abbrev pub result_kind : Target → Level → Option CType → Option Kind
result_kind t level None = None
result_kind t level (Some u) = Some (kind_at t level u)
