-- What is made so far is the first trees and those that were gone through.
use Rattle.std.proofs.Common.{◌≡◌}
use Rattle.rule_trees.specs.RuleTree.{Trees}
use Rattle.rule_word.specs.Rule.{Rule}
use Rattle.word_abstract.specs.CodeTrees.{with_trees}
use Rattle.word_abstract.proofs.trees.joined.Given as goal

abbrev pub invariant-along : goal.invariant-along
invariant-along l = (more : Trees Rule) → with_trees l.parts.items more ≡ with_trees l.initial.parts.items (with_trees l.yielded more)
