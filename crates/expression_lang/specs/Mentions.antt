-- Which names an expression has in it, and whether it looks at the state.
use Rattle.std.specs.Prelude.{Bool, true, false}
use Rattle.c_values.specs.Name.{Name, same_name}
use Rattle.expression_lang.specs.Expression.{Exp, Var, Load, Read, Global}
use Rattle.expression_lang.specs.Form.{has}

abbrev pub is_name : Name → Exp → Bool
is_name x (Var y) = same_name x y
is_name x _ = false

-- it looks at the state
abbrev pub is_reading : Exp → Bool
is_reading (Load t p path) = true
is_reading (Read t p path) = true
is_reading (Global x path) = true
is_reading _ = false

-- an expression names x where x is in it, and reads where a load, a read or a global is in it
abbrev pub names : Name → Exp → Bool
names x e = has (is_name x) e

abbrev pub reads : Exp → Bool
reads e = has is_reading e
