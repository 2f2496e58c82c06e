-- What the code answers of a number in a tree.
use Rattle.std.specs.Prelude.{◌≡◌, ℕ, ◌+◌, Some, reverse}
use Rattle.rule_trees.specs.RuleTree.{Tree}
use Rattle.rule_trees.specs.declared.tree.Tree as T
use Rattle.rule_trees.specs.CodeTree.{tree_of}
use Rattle.rule_trees.specs.CodeNodes.{nodes}
use Rattle.refused_parts.specs.declared.ways.Sought.{Sought}
use Rattle.refused_parts.specs.declared.ways.Sought.TheVariants.{Within, Behind}
use Rattle.refused_parts.specs.Ways.{number_at}

-- a tree over the code's rules
abbrev pub shape_of : {R : Type 0} → T.Tree R → Tree R
shape_of t = tree_of (λ r. r) t

abbrev pub IsSought : {Rule : Type 0} → Tree Rule → ℕ → Sought → Type 0
IsSought t n (Within way) = number_at t (reverse way.items) ≡ Some n
IsSought t n (Behind left) = n ≡ nodes t + left
