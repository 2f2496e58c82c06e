use Rattle.std.proofs.Common.{[]}
use Rattle.rule_trees.proofs.Parts.{made}
use Rattle.rule_local.specs.CodeRule.{rule_of}
use Rattle.local_lift.proofs.lifted.leaf.Goals as goal

-- src/eliminated.rt:22:1
pub returns : goal.returns
returns c = made rule_of (record { rule = c.args.rule; parts = c.new.result }) [] c.new.ensures.items
