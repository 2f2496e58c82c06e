use Rattle.std.proofs.Common.{rules, ◌≡◌, [], ◌∷◌}
use Rattle.rule_trees.proofs.Parts.{made}
use Rattle.rule_eq.specs.CodeRule.{rule_of}
use Rattle.rule_walks.proofs.walks.over_two.Goals as goal

pub returns : goal.returns
returns c =
    let items : c.push-2.new.self.items ≡ c.args.first ∷ c.args.last ∷ [] = search rules in
    made rule_of (record { rule = c.args.rule; parts = c.push-2.new.self }) (c.args.first ∷ c.args.last ∷ []) items
