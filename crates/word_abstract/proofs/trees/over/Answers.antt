use Rattle.std.proofs.Common.{refl, ap, ◌∙◌}
use Rattle.rule_trees.proofs.Parts.{made}
use Rattle.rule_trees.specs.RuleTree.{node}
use Rattle.rule_word.specs.CodeRule.{rule_of}
use Rattle.word_abstract.proofs.TreeLists.{trees_alone}
use Rattle.word_abstract.proofs.trees.over.Goals as goal

pub returns : goal.returns
returns c =
    made rule_of (record { rule = c.args.rule; parts = c.args.parts }) c.args.parts.items refl
    ∙ ap (λ ts. node (rule_of c.args.rule) ts) (trees_alone c.args.parts.items)
