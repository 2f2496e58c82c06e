-- What the code's facts stand for.
use Rattle.c_values.specs.CodeTypes.{type_of}
use Rattle.expression_lang.specs.CodeExpression.{exp_of}
use Rattle.ac_expr.specs.declared.facts.Fact as F
use Rattle.ac_expr.specs.Fact.{Fact, Whole, NotTrue, IsTagged, IsBetween, AtLeast, AtMost, Equal}

abbrev pub fact_of : F.Fact → Fact
fact_of (F.TheVariants.Whole e) = Whole (exp_of e.now)
fact_of (F.TheVariants.Not e) = NotTrue (exp_of e.now)
fact_of (F.TheVariants.Tagged t p) = IsTagged (type_of t.now) (exp_of p.now)
fact_of (F.TheVariants.Between low e high) = IsBetween low (exp_of e.now) high
fact_of (F.TheVariants.AtLeast e low) = AtLeast (exp_of e.now) low
fact_of (F.TheVariants.AtMost e high) = AtMost (exp_of e.now) high
fact_of (F.TheVariants.Equal a b) = Equal (exp_of a.now) (exp_of b.now)
