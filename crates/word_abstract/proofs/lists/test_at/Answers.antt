use Rattle.std.proofs.Common.{◌≡◌, refl}
use Rattle.std.proofs.lemmas.Result.{IfOk-weaker}
use Rattle.expression_lang.specs.CodeExpression.{exp_of}
use Rattle.rule_word.specs.Rule.{View}
use Rattle.rule_word.specs.Table.{truth}
use Rattle.word_abstract.specs.CodeMeaning.{seen_in, AsWord}
use Rattle.word_abstract.specs.CodeAbstracted.{abstracted_in}
use Rattle.word_abstract.specs.CodeScenes.{exp_there}
use Rattle.word_abstract.proofs.lists.test_at.Goals as goal

pub returns : goal.returns
returns c =
    IfOk-weaker c.exp_at.result (λ x. (v : View) → seen_in v ≡ AsWord → abstracted_in x ≡ exp_there c.args.at.now (exp_of c.args.e.now) v)
    (λ x. abstracted_in x ≡ exp_there c.args.at.now (exp_of c.args.e.now) truth) (λ x e. e truth refl) c.exp_at.ensures
