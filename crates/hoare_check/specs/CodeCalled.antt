-- How the code uses a triple for a call.
use Rattle.std.specs.Prelude.{◌≡◌, ℕ, List, Some, map}
use Rattle.c_values.specs.Name.{Name}
use Rattle.expression_lang.specs.Expression.{Exp}
use Rattle.ac_expr.specs.Fact.{Fact}
use Rattle.ac_expr.specs.Facts.{without_reads}
use Rattle.ac_expr.specs.Passed.{without_names}
use Rattle.monad_lang.specs.Program as M
use Rattle.monad_lang.specs.Program.{FinalFn, final_fn}
use Rattle.exactness.specs.Triple.{Assertions}
use Rattle.triple_lang.specs.Deriv.{Ground, Names}
use Rattle.triple_lang.specs.Triple.{Triple}
use Rattle.triple_lang.specs.CodeDeriv.{triple_of}
use Rattle.triple_lang.specs.declared.triple.Triple as T
use Rattle.hoare_check.specs.DeriveTable.{behind, triple_at}

abbrev pub assertions_of : T.Triple → Assertions
assertions_of t = (triple_of t).assertions

abbrev pub all_assertions : List T.Triple → List Assertions
all_assertions ts = map (λ (t : Triple). t.assertions) (map triple_of ts)

-- the triple at the position is of the function that is called
pub record IsCalled (k : Ground) (i : ℕ) (g : Name) (t : Assertions) (f : FinalFn) : Type 0 where
  pub triple : triple_at i k.triples ≡ Some t
  pub function : t.function ≡ g
  pub found : final_fn k.unit.functions g ≡ Some f

-- behind the call these names are in scope, and these facts are known
pub record IsBehind (k : Ground) (ns : Names) (fs : List Fact) (g : Name) (es : List Exp) (xs : List Name) (ms : Names) (hs : List Fact) : Type 0 where
  pub names : ms ≡ behind k (M.Call g es) xs ns
  pub facts : hs ≡ without_names xs (without_reads fs)
