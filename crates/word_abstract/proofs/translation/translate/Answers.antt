use Rattle.std.proofs.Common.{rules, arith, ◌≡◌, true, sym, subst}
use Rattle.std.proofs.lemmas.Grind.{common_steps}
use Rattle.expression_lang.specs.CodeExpression.{level_of}
use Rattle.ac_expr.specs.SameExp.{same_exp}
use Rattle.monad_lang.specs.Program.{Mon}
use Rattle.monad_lang.specs.CodeProgram.{mon_of}
use Rattle.rule_word.specs.Scopes.{result_as_list}
use Rattle.rule_word.specs.Ready.{is_form_of}
use Rattle.rule_word.specs.UnitAbstracted.{scope_for, kinds_there}
use Rattle.rule_word.specs.CodeRule.{context_in}
use Rattle.rule_word.proofs.LevelForm.{form_kept}
use Rattle.word_abstract.specs.CodeFunctionKinds.{function_kinds, translated_for}
use Rattle.word_abstract.proofs.translation.translate.Goals as goal

pub returns-clause-formed : goal.returns-clause-formed
returns-clause-formed c ready form =
    let level = level_of c.args.level in
    let k = function_kinds c.args.kinds in
    let right : mon_of c.into_inner-right.result.right.value ≡ (translated_for level c.args.context c.args.kinds (mon_of c.args.left.now)).right = first_of (search rules, grind (arith, common_steps)) in
    subst (λ (m : Mon). is_form_of level m ≡ true) (sym right) (form_kept same_exp (context_in c.args.context) (kinds_there k) (scope_for k) (mon_of c.args.left.now) (result_as_list k.result) level ready form)
