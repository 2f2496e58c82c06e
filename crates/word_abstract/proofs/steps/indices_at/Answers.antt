use Rattle.std.proofs.Common.{◌∙◌}
use Rattle.std.proofs.lemmas.Result.{IfOk-weaker}
use Rattle.expression_lang.specs.CodeExpression.{path_of}
use Rattle.ac_expr.specs.SameExp.{same_exp}
use Rattle.rule_word.specs.Scopes.{words}
use Rattle.rule_word.specs.Bases.{among}
use Rattle.word_abstract.specs.CodeScenes.{context_at, binders_at, facts_at}
use Rattle.word_abstract.proofs.Seeing.{path_seen, path_trees_seen}
use Rattle.word_abstract.proofs.steps.indices_at.Goals as goal

pub returns-clause-path : goal.returns-clause-path
returns-clause-path c =
    let at = c.args.at.now in
    IfOk-weaker c.indices.result _ _ (λ new e ts. e ∙ path_seen same_exp at.setting.now.numbers (words (context_at at) (binders_at at)).scope (binders_at at) (among (facts_at at)) (path_of c.args.path.now) ts) c.indices.ensures.path

pub returns-clause-trees : goal.returns-clause-trees
returns-clause-trees c =
    let at = c.args.at.now in
    IfOk-weaker c.indices.result _ _ (λ new e ts. e ts ∙ path_trees_seen same_exp at.setting.now.numbers (words (context_at at) (binders_at at)).scope (binders_at at) (among (facts_at at)) (path_of c.args.path.now) ts) c.indices.ensures.trees
