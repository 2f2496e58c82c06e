use Rattle.std.proofs.Common.{◌≡◌, ◌∙◌}
use Rattle.std.proofs.lemmas.Result.{IfOk-weaker}
use Rattle.expression_lang.specs.CodeExpression.{exp_of}
use Rattle.ac_expr.specs.SameExp.{same_exp}
use Rattle.rule_word.specs.Rule.{View}
use Rattle.rule_word.specs.Scopes.{words}
use Rattle.rule_word.specs.Bases.{among}
use Rattle.word_abstract.specs.CodeMeaning.{seen_in, meaning, standing}
use Rattle.word_abstract.specs.CodeViews.{seen_of}
use Rattle.word_abstract.specs.CodeAbstracted.{abstracted_in}
use Rattle.word_abstract.specs.CodeScenes.{context_at, binders_at, facts_at, exp_there}
use Rattle.word_abstract.proofs.Seeing.{exp_seen}
use Rattle.word_abstract.proofs.lists.exp_at.Goals as goal

pub returns : goal.returns
returns c =
    let at = c.args.at.now in
    IfOk-weaker c.abstracted.result
    (λ x. abstracted_in x ≡ meaning (standing same_exp at.setting.now.numbers (words (context_at at) (binders_at at)).scope (binders_at at) (among (facts_at at)) (exp_of c.args.e.now)) (seen_of c.args.view))
    (λ x. (v : View) → seen_in v ≡ seen_of c.args.view → abstracted_in x ≡ exp_there at (exp_of c.args.e.now) v)
    (λ x e v q. e ∙ exp_seen same_exp at.setting.now.numbers (words (context_at at) (binders_at at)).scope (binders_at at) (among (facts_at at)) (exp_of c.args.e.now) v (seen_of c.args.view) q) c.abstracted.ensures
