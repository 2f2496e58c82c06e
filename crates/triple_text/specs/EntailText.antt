-- Trees of the rules of assertions as texts: a node is its rule's word, what the rule takes and the trees of its parts, in parentheses where there is more
-- than the word.
use Rattle.std.specs.Prelude.{Bool, true, false, ◌&&◌}
use Rattle.c_values.specs.Name.{Name}
use Rattle.ac_sx.specs.Tree.{Tree, Trees, Atom, Node, no_trees, more}
use Rattle.expression_text.specs.Numbers.{number_text, is_number}
use Rattle.expression_text.specs.ExpText.{exp_tree, is_exp}
use Rattle.expression_text.specs.Lists.{each, trees_for}
use Rattle.rule_trees.specs.RuleTree as rules
use Rattle.triple_lang.specs.Entail as R
use Rattle.triple_text.specs.declared.entail_heads.EntailLeaf.TheVariants as L
use Rattle.triple_text.specs.declared.entail_heads.EntailHead.TheVariants as H
use Rattle.triple_text.specs.Words.{entail_leaf_word, entail_head_word}

abbrev pub entail_word : R.Rule → Name
entail_word R.Hyp = entail_leaf_word L.Hyp
entail_word R.Same = entail_leaf_word L.Same
entail_word R.Compute = entail_leaf_word L.Compute
entail_word R.And = entail_head_word H.And
entail_word R.Imp = entail_head_word H.Imp
entail_word R.Or = entail_head_word H.Or
entail_word R.Not = entail_head_word H.Not
entail_word R.Between = entail_head_word H.Between
entail_word (R.Case c) = entail_head_word H.Case
entail_word (R.Cut c) = entail_head_word H.Cut
entail_word R.Absurd = entail_head_word H.Absurd
entail_word (R.Rewrite a b q) = entail_head_word H.Rewrite
entail_word (R.Step q) = entail_head_word H.Step
entail_word R.Range = entail_leaf_word L.Range
entail_word (R.Linear k ws) = entail_head_word H.Linear

-- how often a fact is taken, and the fact
abbrev pub weighed_tree : R.Weighed → Tree
weighed_tree w = Node (more (Atom (number_text w.weight)) (more (exp_tree w.fact) no_trees))

-- what stands behind the word, the trees of the parts last
abbrev pub entail_row : R.Rule → Trees → Trees
entail_row (R.Case c) ts = more (exp_tree c) ts
entail_row (R.Cut c) ts = more (exp_tree c) ts
entail_row (R.Rewrite a b q) ts = more (exp_tree a) (more (exp_tree b) (more (exp_tree q) ts))
entail_row (R.Step q) ts = more (exp_tree q) ts
entail_row (R.Linear k ws) ts = more (Atom (number_text k)) (trees_for weighed_tree ws)
entail_row _ ts = ts

abbrev pub word_with : Name → Trees → Tree
word_with word no_trees = Atom word
word_with word (more t ts) = Node (more (Atom word) (more t ts))

abbrev mutual
  pub entail_tree : rules.Tree R.Rule → Tree
  entail_tree (rules.node r ts) = word_with (entail_word r) (entail_row r (entail_trees ts))

  pub entail_trees : rules.Trees R.Rule → Trees
  entail_trees rules.no_trees = no_trees
  entail_trees (rules.tree t ts) = more (entail_tree t) (entail_trees ts)

abbrev pub is_weighed : R.Weighed → Bool
is_weighed w = is_number w.weight && is_exp w.fact

-- Which trees have a text that says what they are: each rule has as many parts as it takes, its expressions have texts, and its numbers have a magnitude
-- below 2^128.
abbrev mutual
  pub is_entail : rules.Tree R.Rule → Bool
  is_entail (rules.node r ts) = is_entail_node r ts

  pub is_entail_node : R.Rule → rules.Trees R.Rule → Bool
  is_entail_node R.Hyp rules.no_trees = true
  is_entail_node R.Same rules.no_trees = true
  is_entail_node R.Compute rules.no_trees = true
  is_entail_node R.And (rules.tree t (rules.tree u rules.no_trees)) = is_entail t && is_entail u
  is_entail_node R.Imp (rules.tree t rules.no_trees) = is_entail t
  is_entail_node R.Or (rules.tree t rules.no_trees) = is_entail t
  is_entail_node R.Not (rules.tree t rules.no_trees) = is_entail t
  is_entail_node R.Between (rules.tree t (rules.tree u rules.no_trees)) = is_entail t && is_entail u
  is_entail_node (R.Case c) (rules.tree t (rules.tree u rules.no_trees)) = is_exp c && (is_entail t && is_entail u)
  is_entail_node (R.Cut c) (rules.tree t (rules.tree u rules.no_trees)) = is_exp c && (is_entail t && is_entail u)
  is_entail_node R.Absurd (rules.tree t rules.no_trees) = is_entail t
  is_entail_node (R.Rewrite a b q) (rules.tree t (rules.tree u rules.no_trees)) = is_exp a && (is_exp b && (is_exp q && (is_entail t && is_entail u)))
  is_entail_node (R.Step q) (rules.tree t rules.no_trees) = is_exp q && is_entail t
  is_entail_node R.Range rules.no_trees = true
  is_entail_node (R.Linear k ws) rules.no_trees = is_number k && each is_weighed ws
  is_entail_node _ _ = false
