-- Triples with their derivations.
use Rattle.rule_trees.specs.RuleTree.{Tree}
use Rattle.exactness.specs.Triple.{Assertions}
use Rattle.triple_lang.specs.Deriv.{Rule}

pub record Triple : Type 0 where
  pub assertions : Assertions
  pub derivation : Tree Rule
