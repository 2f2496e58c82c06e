-- What the code finds of values with a part replaced, and which parts of globals are of the one that is written.
use Rattle.std.specs.Prelude.{◌≡◌, ◌↔◌, Bool, false}
use Rattle.c_values.specs.Name.{Name, same_name}
use Rattle.expression_lang.specs.Expression.{Exp, Global, Path}
use Rattle.expression_lang.specs.CodeExpression.{exp_of}
use Rattle.assertion_walks.specs.Written.{replaced}
use Rattle.assertion_walks.specs.declared.replacing.Replaced as R

-- of an expression that is to be a value with the part at the path replaced
abbrev pub SaysOfWhole : R.Replaced → Path → Exp → Exp → Exp → Type 0
SaysOfWhole R.TheVariants.Nowhere path e a whole = a ≡ replaced whole path e → ⊥
SaysOfWhole R.TheVariants.Anywhere path e a whole = a ≡ replaced whole path e
SaysOfWhole (R.TheVariants.Only w) path e a whole = (exp_of w.now ≡ whole) ↔ (a ≡ replaced whole path e)

abbrev pub is_of_global : Name → Exp → Bool
is_of_global x (Global y way) = same_name x y
is_of_global x e = false
