-- What is said of an expression: its value, or its first undefined step, in C; and that the generated expression has the
-- value and its guards hold, or that the first guard that fails is of that kind.
use Rattle.std.specs.Prelude.{◌≡◌, List, [], ◌∷◌, Option, Some, None, Ok, Err, if◌then◌else◌}
use Rattle.c_values.specs.Types.{Target}
use Rattle.c_values.specs.Value.{Value}
use Rattle.c_memory.specs.Heap.{OnBytes}
use Rattle.expression_lang.specs.Sort.{Level}
use Rattle.expression_lang.specs.Evaluation as E
use Rattle.expression_lang.specs.Evaluation.{holds}
use Rattle.expression_lang.specs.Signature.{no_env}
use Rattle.expression_lang.specs.GuardKind.{GuardKind}
use Rattle.simpl_lang.specs.Command.{Condition}
use Rattle.c_lang.specs.Typed.{Expr}
use Rattle.c_meaning.specs.CValue.{Context, value}
use Rattle.generation.specs.Guards.{exp, guards}
use Rattle.worked_rows.specs.Claims.{no_memory}

-- without locals, memory and globals
abbrev pub alone : Target → Level → Context
alone t level = record { layout = record { target = t; structs = [] }; level = level; locals = no_env; state = record { heap = OnBytes no_memory; globals = no_env } }

-- the first condition that fails
abbrev pub failing : Context → List Condition → Option GuardKind
failing c [] = None
failing c (g ∷ gs) = if holds c.layout c.locals c.state g.exp then failing c gs else Some g.kind

pub record Evaluates (c : Context) (e : Expr) (v : Value) : Type 0 where
  pub in_c : value c e ≡ Ok v
  pub no_guard_fails : failing c (guards c.layout c.level e) ≡ None
  pub generated : E.value c.layout c.locals c.state (exp c.layout e) ≡ v

pub record IsUndefined (c : Context) (e : Expr) (k : GuardKind) : Type 0 where
  pub in_c : value c e ≡ Err k
  pub guard_fails : failing c (guards c.layout c.level e) ≡ Some k
