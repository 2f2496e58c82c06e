-- Environments that agree on the names in scope give a well-sorted expression one value.
use Rattle.std.proofs.Common.{◌≡◌, true}
use Rattle.std.specs.Option.{is_some}
use Rattle.c_values.specs.Name.{Name}
use Rattle.expression_lang.specs.Expression.{Exp}
use Rattle.expression_lang.specs.Evaluation.{Env, State, value}
use Rattle.expression_lang.specs.Sort.{Scope, sort_of}
use Rattle.monad_lang.proofs.AgreeingValues.{value_agrees}
use Rattle.rule_local.proofs.InScope.{exp_in_scope}

-- what every name in scope has in both
abbrev pub AgreeIn : Scope → Env → Env → Type 0
AgreeIn g env env' = (y : Name) → is_some (g.names y) ≡ true → env y ≡ env' y

pub known_value : (g : Scope) (env env' : Env) (s : State) → AgreeIn g env env' → (e : Exp) → is_some (sort_of g e) ≡ true →
    value g.layout env s e ≡ value g.layout env' s e
known_value g env env' s h e k = value_agrees g.layout env env' s e (λ y n. h y (exp_in_scope g y e k n))
