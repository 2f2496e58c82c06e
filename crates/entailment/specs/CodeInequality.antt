-- What the code's places, sides and inequalities stand for.
use Rattle.expression_lang.specs.Expression.{Exp, NumberLit}
use Rattle.expression_lang.specs.CodeExpression.{exp_of}
use Rattle.entailment.specs.Linear.{Place, Constant, Unknown, Inequality}
use Rattle.entailment.specs.declared.coefficients.Place as P
use Rattle.entailment.specs.declared.inequalities.Side as S
use Rattle.entailment.specs.declared.inequalities.Inequality as I

abbrev pub place_of : P.Place → Place
place_of P.TheVariants.Constant = Constant
place_of (P.TheVariants.Unknown u) = Unknown (exp_of u.now)

abbrev pub side_of : S.Side → Exp
side_of (S.TheVariants.Whole e) = exp_of e.now
side_of (S.TheVariants.Literal n) = NumberLit n

abbrev pub inequality_of : I.Inequality → Inequality
inequality_of i = record { left = side_of i.left; right = side_of i.right; strict = i.strict }
