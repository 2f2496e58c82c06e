-- Substitution: an expression with another one in place of a name.
use Rattle.std.specs.Prelude.{Option, Some, None, if◌then◌else◌}
use Rattle.c_values.specs.Name.{Name, same_name}
use Rattle.expression_lang.specs.Expression.{Exp, Var, Path}
use Rattle.expression_lang.specs.Changed.{changed, changed_path}

abbrev pub in_place_of : Name → Exp → Exp → Option Exp
in_place_of x e (Var y) = if same_name x y then Some e else None
in_place_of x e _ = None

-- with e for x
abbrev pub substituted : Name → Exp → Exp → Exp
substituted x e a = changed (in_place_of x e) a

abbrev pub path_substituted : Name → Exp → Path → Path
path_substituted x e path = changed_path (in_place_of x e) path
