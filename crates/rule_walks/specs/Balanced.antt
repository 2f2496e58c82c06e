-- Trees whose steps at one node stand in a balanced way: so the depth of a tree grows as the logarithm of the steps at a node.
use Rattle.std.specs.Prelude.{ℕ, zero, suc, max, ◌%◌, Bool, true, false, nat_eq}
use Rattle.monad_lang.specs.Program.{Mon}
use Rattle.rule_trees.specs.RuleTree.{Tree, Trees, node, no_trees, tree}
use Rattle.rule_eq.specs.Rule as R
use Rattle.rule_eq.specs.Rule.{Rule}

-- trees, one after the other, with the programs between them
pub data Chain : Type 0 where
  single : Tree Rule → Chain
  before : Tree Rule → Mon → Chain → Chain

abbrev pub chained : Chain → Mon → Chain → Chain
chained (single t) m d = before t m d
chained (before t n c) m d = before t n (chained c m d)

-- each two that come one after the other, as one
abbrev pub paired : Chain → Chain
paired (single t) = single t
paired (before t m (single u)) = single (node (R.Trans m) (tree t (tree u no_trees)))
paired (before t m (before u n c)) = before (node (R.Trans m) (tree t (tree u no_trees))) n (paired c)

-- the same where the first may stand alone
abbrev pub paired_from : Bool → Chain → Chain
paired_from true (single t) = single t
paired_from true (before t m c) = before t m (paired c)
paired_from false c = paired c

abbrev pub links : Chain → ℕ
links (single t) = zero
links (before t m c) = suc (links c)

-- Each two as one. Of an odd number the first stands alone: what is done inside a program comes first, and its tree is mostly the highest.
abbrev pub round : Chain → Chain
round c = paired_from (nat_eq (links c % 2) 0) c

-- in pairs, until there is one, for so many rounds at most
abbrev pub as_one : ℕ → Chain → Tree Rule
as_one k (single t) = t
as_one zero (before t m c) = node (R.Trans m) (tree t (tree (as_one zero c) no_trees))
as_one (suc k) (before t m c) = as_one k (round (before t m c))

abbrev pub built : Chain → Tree Rule
built c = as_one (links c) c

abbrev mutual
  -- the steps at the node, each balanced in its parts
  pub steps_of : Tree Rule → Chain
  steps_of (node (R.Trans m) (tree t (tree u no_trees))) = chained (steps_of t) m (steps_of u)
  steps_of (node rule ts) = single (node rule (all_balanced ts))

  pub all_balanced : Trees Rule → Trees Rule
  all_balanced no_trees = no_trees
  all_balanced (tree t ts) = tree (built (steps_of t)) (all_balanced ts)

abbrev pub balanced : Tree Rule → Tree Rule
balanced t = built (steps_of t)

-- How deep trees are.

abbrev mutual
  pub height : Tree Rule → ℕ
  height (node rule ts) = suc (highest ts)

  pub highest : Trees Rule → ℕ
  highest no_trees = zero
  highest (tree t ts) = max (height t) (highest ts)

-- the height of the highest
abbrev pub tallest : Chain → ℕ
tallest (single t) = height t
tallest (before t m c) = max (height t) (tallest c)
