use Rattle.std.proofs.Common.{[]}
use Rattle.rule_trees.proofs.Parts.{made}
use Rattle.rule_eq.specs.CodeRule.{rule_of}
use Rattle.rule_walks.proofs.walks.leaf.Goals as goal

pub returns : goal.returns
returns c = made rule_of (record { rule = c.args.rule; parts = c.new.result }) [] c.new.ensures.items
