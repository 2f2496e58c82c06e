-- Names that are none of a function's parameters and are free in a program.
use Rattle.std.specs.Prelude.{Bool, false, not, ◌&&◌, List}
use Rattle.c_values.specs.Name.{Name, is_among}
use Rattle.expression_lang.specs.Expression.{Exp, Var}
use Rattle.monad_lang.specs.Program.{Mon}
use Rattle.monad_lang.specs.Names.{is_free}

abbrev pub is_stray : Mon → List Name → Exp → Bool
is_stray m ps (Var x) = not (is_among x ps) && is_free x m
is_stray m ps _ = false

-- a name that is none of these
abbrev pub is_unknown : List Name → Exp → Bool
is_unknown xs (Var x) = not (is_among x xs)
is_unknown xs _ = false
