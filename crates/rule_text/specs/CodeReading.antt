-- How the code reads a node: the rule that a list begins with, and then the trees of its parts.
use Rattle.std.specs.Prelude.{ℕ, Option, Some, None, Ok, Err, if◌then◌else◌}
use Rattle.ac_sx.specs.Tree.{Trees, more}
use Rattle.c_values.specs.Name.{Name}
use Rattle.expression_text.specs.Reading.{Read, next, ◌>>=◌}
use Rattle.rule_trees.specs.RuleTree as rules
use Rattle.rule_text.specs.Arities.{fits}
use Rattle.rule_text.specs.RuleReading.{Given, Words, count, leaf_at, trees_at}

abbrev pub with_trees : {Rule : Type 0} → rules.Trees Rule → rules.Trees Rule → rules.Trees Rule
with_trees rules.no_trees us = us
with_trees (rules.tree t ts) us = rules.tree t (with_trees ts us)

module _ {Rule : Type 0} (words : Words Rule) where
  -- of a list at this number: its rule, and the trees of the rule's parts
  abbrev pub front_by : ℕ → Option Rule → Option (Given Rule) → Trees → Read (Rule × Trees)
  front_by at (Some r) _ (more t ts) = if fits (words.arity r) (count (more t ts)) then Ok ((r, more t ts), next (next at)) else Err at
  front_by at None (Some g) (more t ts) =
      if fits g.arity (count ts) then (do
        x ← g.read (next (next at)) t
        Ok ((x.0, ts), x.1)) else Err at
  front_by at _ _ _ = Err at

  abbrev pub front_at : ℕ → Name → Trees → Read (Rule × Trees)
  front_at at word ts = front_by at (words.plain word) (words.given word) ts

  -- behind its front, a node has the trees of its parts
  abbrev pub with_parts : Read (Rule × Trees) → Read (rules.Tree Rule)
  with_parts front = do
    x ← front
    y ← trees_at words x.1 x.0.1
    Ok (rules.node x.0.0 y.0, y.1)

  -- of a word, or of a list's head and parts
  abbrev pub tree_by : ℕ → Option Name → Option (Name × Trees) → Read (rules.Tree Rule)
  tree_by at (Some word) _ = leaf_at words at (words.plain word)
  tree_by at None (Some (word, ts)) = with_parts (front_at at word ts)
  tree_by at None None = Err at
