-- What it means that an assertion follows from facts.
use Rattle.std.specs.Prelude.{◌≡◌, true, List}
use Rattle.c_values.specs.Layout.{GlobalVar}
use Rattle.expression_lang.specs.Expression.{Exp}
use Rattle.expression_lang.specs.Evaluation.{Env, State, holds}
use Rattle.expression_lang.specs.Sort.{Scope}
use Rattle.expression_lang.specs.States.{IsEnvironment, IsState}
use Rattle.ac_expr.specs.Fact.{Fact, AllSay}

-- in every environment of the names' sorts and every state in which the facts hold, it holds
abbrev pub Follows : Scope → List GlobalVar → List Fact → Exp → Type 0
Follows g vs fs q =
    (env : Env) (s : State) → IsEnvironment g env → IsState g.layout vs s → AllSay g.layout env s fs → holds g.layout env s q ≡ true
