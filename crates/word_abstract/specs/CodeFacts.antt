-- What the code's facts stand for.
use Rattle.std.specs.Prelude.{List, [], ◌∷◌, map, if◌then◌else◌}
use Rattle.expression_lang.specs.CodeExpression.{exp_of}
use Rattle.expression_lang.specs.declared.expression.Exp as E
use Rattle.ac_expr.specs.Fact.{Fact, Whole, NotTrue}
use Rattle.word_abstract.specs.CodeKnown.{newest_first}
use Rattle.word_abstract.specs.declared.facts.Fact as F
use Rattle.word_abstract.specs.declared.facts.Known as K
use Rattle.word_abstract.specs.declared.facts.Conditions as C

abbrev pub fact_in : F.Fact → Fact
fact_in f = if f.holds then Whole (exp_of f.exp.now) else NotTrue (exp_of f.exp.now)

abbrev pub whole : E.Exp → Fact
whole e = Whole (exp_of e)

abbrev pub known_in : K.Known → List Fact
known_in k = newest_first (map whole k.own.now) (newest_first (map fact_in k.outer.now) [])

abbrev pub conditions_in : C.Conditions → List Fact
conditions_in C.None = []
conditions_in (C.With' p rest f) = fact_in f ∷ conditions_in rest
