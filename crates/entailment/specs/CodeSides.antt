-- What the code's claims of two sides stand for.
use Rattle.std.specs.Prelude.{◌≡◌}
use Rattle.expression_lang.specs.Expression.{Exp, Le, Eq}
use Rattle.expression_lang.specs.CodeExpression.{exp_of}
use Rattle.entailment.specs.declared.sides.Relation as R
use Rattle.entailment.specs.declared.sides.Sides as S

abbrev pub related : R.Relation → Exp → Exp → Exp
related R.TheVariants.AtMost a b = Le a b
related R.TheVariants.Equal a b = Eq a b

abbrev pub sides_of : S.Sides → Exp
sides_of s = related s.relation (exp_of s.first.now) (exp_of s.second.now)

-- it is an equation of an expression and itself
abbrev pub AreEqual : R.Relation → Exp → Exp → Type 0
AreEqual R.TheVariants.AtMost a b = ⊥
AreEqual R.TheVariants.Equal a b = b ≡ a
