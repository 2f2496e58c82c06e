-- Trees of rules as texts: a node is its rule's word, the rule's data and the trees of its parts, in parentheses where there is more than the word.
use Rattle.std.specs.Prelude.{Bool, true, ◌&&◌}
use Rattle.ac_sx.specs.Tree.{Tree, Trees, Atom, Node, no_trees, more}
use Rattle.c_values.specs.Name.{Name}
use Rattle.expression_text.specs.Lists.{joined}
use Rattle.rule_trees.specs.RuleTree as rules
use Rattle.rule_text.specs.declared.arity.Arity.{Arity}
use Rattle.rule_text.specs.Arities.{fits}

abbrev pub word_with : Name → Trees → Tree
word_with word no_trees = Atom word
word_with word (more t ts) = Node (more (Atom word) (more t ts))

module _ {Rule : Type 0} (word : Rule → Name) (data' : Rule → Trees) where
  abbrev mutual
    pub rule_tree : rules.Tree Rule → Tree
    rule_tree (rules.node r ts) = word_with (word r) (joined (data' r) (rule_trees ts))

    pub rule_trees : rules.Trees Rule → Trees
    rule_trees rules.no_trees = no_trees
    rule_trees (rules.tree t ts) = more (rule_tree t) (rule_trees ts)

-- which trees have a text that says what they are: each rule may have so many parts, and its data have a text
module _ {Rule : Type 0} (arity : Rule → Arity) (has_text : Rule → Bool) where
  abbrev mutual
    pub is_tree : rules.Tree Rule → Bool
    is_tree (rules.node r ts) = (fits (arity r) (rules.count ts) && has_text r) && are_trees ts

    pub are_trees : rules.Trees Rule → Bool
    are_trees rules.no_trees = true
    are_trees (rules.tree t ts) = is_tree t && are_trees ts
