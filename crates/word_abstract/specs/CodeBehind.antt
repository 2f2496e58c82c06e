-- What is made of a program behind the parts that the code passed.
use Rattle.std.specs.Prelude.{List}
use Rattle.expression_lang.specs.Sort.{Kind}
use Rattle.ac_expr.specs.SameExp.{same_exp}
use Rattle.monad_lang.specs.Program.{Mon}
use Rattle.rule_word.specs.ProgramsAbstracted.{AbstractedProgram, program_abstracted}
use Rattle.word_abstract.specs.CodePassing.{facts_passed, names_passed}
use Rattle.word_abstract.specs.CodeScenes.{context_at, binders_at, local_kinds}
use Rattle.word_abstract.specs.declared.points.Scene as P
use Rattle.word_abstract.specs.declared.passing.Passed as Q

abbrev pub program_behind : P.Scene → Q.Passed → Mon → List Kind → AbstractedProgram
program_behind p passed m ks =
    program_abstracted same_exp p.setting.now.numbers (context_at p) (λ x. local_kinds p.setting.now x) (facts_passed passed)
    (names_passed passed (binders_at p)) m ks
