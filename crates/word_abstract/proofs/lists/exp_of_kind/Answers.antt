use Rattle.std.proofs.Common.{◌≡◌, ◌∙◌, sym}
use Rattle.std.proofs.lemmas.Result.{IfOk-weaker}
use Rattle.expression_lang.specs.CodeExpression.{exp_of, kind_of}
use Rattle.rule_word.specs.Rule.{View}
use Rattle.rule_word.specs.Scopes.{view_for}
use Rattle.word_abstract.specs.CodeMeaning.{seen_in}
use Rattle.word_abstract.specs.CodeViews.{seen_of}
use Rattle.word_abstract.specs.CodeAbstracted.{abstracted_in}
use Rattle.word_abstract.specs.CodeScenes.{exp_there}
use Rattle.word_abstract.proofs.lists.exp_of_kind.Goals as goal
use Rattle.word_abstract.proofs.Meanings.{kind_seen}

pub returns : goal.returns
returns c =
    IfOk-weaker c.exp_at.result (λ x. (v : View) → seen_in v ≡ (seen_of c.seen_for.result) → abstracted_in x ≡ exp_there c.args.at.now (exp_of c.args.e.now) v)
    (λ x. abstracted_in x ≡ exp_there c.args.at.now (exp_of c.args.e.now) (view_for (kind_of c.args.kind))) (λ x e. e (view_for (kind_of c.args.kind)) (kind_seen (kind_of c.args.kind) ∙ sym c.seen_for.ensures)) c.exp_at.ensures
