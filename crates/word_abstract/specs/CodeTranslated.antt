-- What the code's translated programs stand for.
use Rattle.std.specs.Prelude.{List, map, Vec}
use Rattle.std.specs.declared.alloc.Global.{Global}
use Rattle.expression_lang.specs.Expression.{Exp}
use Rattle.expression_lang.specs.CodeExpression.{exp_of}
use Rattle.expression_lang.specs.declared.expression.Exp as E
use Rattle.monad_lang.specs.CodeProgram.{mon_of}
use Rattle.rule_word.specs.CodeRule.{tree_of}
use Rattle.rule_word.specs.ProgramsAbstracted.{AbstractedProgram}
use Rattle.word_abstract.specs.declared.translated.Translated as T

abbrev pub translated_in : T.Translated → AbstractedProgram
translated_in m = record { right = mon_of m.right.value; tree = tree_of m.tree }

abbrev pub exps_in : Vec E.Exp Global → List Exp
exps_in v = map exp_of v.items
