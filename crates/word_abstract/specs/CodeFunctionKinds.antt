-- What the code's kinds of functions stand for, and what a function's program is made at them.
use Rattle.std.specs.Prelude.{[], map}
use Rattle.std.specs.Option.{option_map}
use Rattle.expression_lang.specs.Sort.{Level}
use Rattle.expression_lang.specs.CodeExpression.{kind_of}
use Rattle.expression_lang.specs.CodeSignature.{binder_of}
use Rattle.ac_expr.specs.SameExp.{same_exp}
use Rattle.monad_lang.specs.Program.{Mon}
use Rattle.rule_word.specs.Scopes.{result_as_list}
use Rattle.rule_word.specs.ProgramsAbstracted.{AbstractedProgram, program_abstracted}
use Rattle.rule_word.specs.Ready.{is_numbers_level}
use Rattle.rule_word.specs.UnitAbstracted.{FunctionKinds, scope_for, kinds_there}
use Rattle.rule_word.specs.CodeRule.{context_in}
use Rattle.rule_word.specs.declared.rule.Context as C
use Rattle.word_abstract.specs.declared.translation.FunctionKinds as F

abbrev pub function_kinds : F.FunctionKinds → FunctionKinds
function_kinds k = record { params = map binder_of k.params.now; result = option_map kind_of k.result; locals = map binder_of k.locals.now }

abbrev pub translated_for : Level → C.Context → F.FunctionKinds → Mon → AbstractedProgram
translated_for level c k m =
    program_abstracted same_exp (is_numbers_level level) (context_in c) (kinds_there (function_kinds k)) [] (scope_for (function_kinds k)) m
    (result_as_list (function_kinds k).result)
