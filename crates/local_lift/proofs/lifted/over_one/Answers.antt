use Rattle.std.proofs.Common.{rules, ◌≡◌, [], ◌∷◌}
use Rattle.rule_trees.proofs.Parts.{made}
use Rattle.rule_local.specs.CodeRule.{rule_of}
use Rattle.local_lift.proofs.lifted.over_one.Goals as goal

-- src/eliminated.rt:33:1
pub returns : goal.returns
returns c =
    let items : c.push.new.self.items ≡ c.args.part ∷ [] = search rules in
    made rule_of (record { rule = c.args.rule; parts = c.push.new.self }) (c.args.part ∷ []) items
