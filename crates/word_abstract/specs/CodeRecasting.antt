-- Expressions that come before others, where there are others.
use Rattle.std.specs.Prelude.{List, ◌++◌, Option, Some, None}
use Rattle.expression_lang.specs.Expression.{Exp}

abbrev pub before : List Exp → Option (List Exp) → Option (List Exp)
before xs None = None
before xs (Some ys) = Some (xs ++ ys)
