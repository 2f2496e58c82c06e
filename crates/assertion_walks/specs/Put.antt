-- An expression with others in place of names, all at once.
use Rattle.std.specs.Prelude.{List, ◌∷◌, Option, Some, None, if◌then◌else◌}
use Rattle.c_values.specs.Name.{Name, same_name}
use Rattle.expression_lang.specs.Expression.{Exp, Var}
use Rattle.expression_lang.specs.Changed.{changed}

abbrev pub exp_for : List Name → List Exp → Name → Option Exp
exp_for (x ∷ xs) (e ∷ es) y = if same_name x y then Some e else exp_for xs es y
exp_for _ _ y = None

abbrev pub in_places_of : List Name → List Exp → Exp → Option Exp
in_places_of xs es (Var y) = exp_for xs es y
in_places_of xs es e = None

-- with each expression for its name
abbrev pub put : List Name → List Exp → Exp → Exp
put xs es e = changed (in_places_of xs es) e
