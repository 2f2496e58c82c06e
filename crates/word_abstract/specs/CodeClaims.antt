-- Which facts give no range, whatever is known before.
use Rattle.expression_lang.specs.Expression as X
use Rattle.expression_lang.specs.Expression.{Exp}

-- none of the forms that give a range
abbrev pub IsOther : Exp → Type 0
IsOther (X.And a b) = ⊥
IsOther (X.Between low x high) = ⊥
IsOther (X.Imp c d) = ⊥
IsOther e = Unit {0}
