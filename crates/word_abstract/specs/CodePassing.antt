-- What is known, and which names are in scope, behind the parts that the code passed.
use Rattle.std.specs.Prelude.{List, [], map}
use Rattle.expression_lang.specs.Signature.{Binder, names_of, kinds_of}
use Rattle.expression_lang.specs.CodeSignature.{binder_of}
use Rattle.ac_expr.specs.Fact.{Fact}
use Rattle.rule_word.specs.Scopes.{with_kinds}
use Rattle.word_abstract.specs.CodeKnown.{newest_first}
use Rattle.word_abstract.specs.CodeFacts.{fact_in, whole}
use Rattle.word_abstract.specs.declared.passing.Passed as P

abbrev pub facts_passed : P.Passed → List Fact
facts_passed p = newest_first (map whole p.own.items) (newest_first (map fact_in p.outer.items) [])

abbrev pub names_passed : P.Passed → List Binder → List Binder
names_passed p bs = with_kinds (names_of (map binder_of p.bound.items)) (kinds_of (map binder_of p.bound.items)) bs
