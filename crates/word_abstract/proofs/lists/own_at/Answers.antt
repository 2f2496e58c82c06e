use Rattle.std.proofs.Common.{◌≡◌, refl}
use Rattle.std.proofs.lemmas.Result.{IfOk-weaker}
use Rattle.expression_lang.specs.CodeExpression.{exp_of}
use Rattle.rule_word.specs.Rule.{View}
use Rattle.rule_word.specs.Scopes.{words, own}
use Rattle.word_abstract.specs.CodeMeaning.{seen_in, AsWord}
use Rattle.word_abstract.specs.CodeAbstracted.{abstracted_in}
use Rattle.word_abstract.specs.CodeScenes.{context_at, binders_at, exp_there}
use Rattle.word_abstract.proofs.lists.own_at.Goals as goal

pub returns : goal.returns
returns c =
    IfOk-weaker c.exp_at.result (λ x. (v : View) → seen_in v ≡ AsWord → abstracted_in x ≡ exp_there c.args.at.now (exp_of c.args.e.now) v)
    (λ x. abstracted_in x ≡ exp_there c.args.at.now (exp_of c.args.e.now) (own (words (context_at c.args.at.now) (binders_at c.args.at.now)).scope (exp_of c.args.e.now))) (λ x e. e (own (words (context_at c.args.at.now) (binders_at c.args.at.now)).scope (exp_of c.args.e.now)) refl) c.exp_at.ensures
