-- What the text has declared outside functions so far, beside types: its globals, and its functions with a body.
use Rattle.std.specs.Prelude.{ℤ, Bool, List, [], ◌∷◌, Option, Some, None, if◌then◌else◌}
use Rattle.c_values.specs.Name.{Name, same_name}
use Rattle.c_values.specs.Types.{CType}

-- a global: whether a declaration without `extern` stood, and the value of its initialiser
pub record GlobalSoFar : Type 0 where
  pub name : Name
  pub type : CType
  pub is_defined : Bool
  pub initial : Option ℤ

pub record File : Type 0 where
  -- the functions that have a body anywhere in the text, and those that had one so far
  pub with_body : Name → Bool
  pub with_body_so_far : Name → Bool
  -- in the order of their first declarations
  pub globals : List GlobalSoFar

abbrev pub global_named : List GlobalSoFar → Name → Option GlobalSoFar
global_named [] x = None
global_named (g ∷ gs) x = if same_name g.name x then Some g else global_named gs x

-- the globals with one changed, where it is there, and else with it behind them
abbrev pub with_global : GlobalSoFar → List GlobalSoFar → List GlobalSoFar
with_global g [] = g ∷ []
with_global g (h ∷ hs) = if same_name h.name g.name then g ∷ hs else h ∷ with_global g hs
