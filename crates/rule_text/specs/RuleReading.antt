-- Trees read as trees of rules. A list is bad where its first part is no rule's word, or where the rule can't have so many parts, and a list of a word
-- alone is bad; an atom is bad where it is no word of a rule without data, or where the rule needs parts. Otherwise a list's parts are looked at in order.
use Rattle.std.specs.Prelude.{ℕ, suc, Option, Some, None, Ok, Err, if◌then◌else◌}
use Rattle.ac_sx.specs.Tree.{Tree, Trees, Atom, Node, no_trees, more}
use Rattle.c_values.specs.Name.{Name}
use Rattle.expression_text.specs.Reading.{Read, next, ◌>>=◌}
use Rattle.rule_trees.specs.RuleTree as rules
use Rattle.rule_text.specs.declared.arity.Arity.{Arity}
use Rattle.rule_text.specs.Arities.{fits}

-- what begins a rule with data: how many parts the rule may have, and how it is read from its data
pub record Given (Rule : Type 0) : Type 0 where
  pub arity : Arity
  pub read : ℕ → Tree → Read Rule

-- the words of a phase's rules: the rule without data that a word is, and how many parts it may have; or what a word begins
pub record Words (Rule : Type 0) : Type 0 where
  pub plain : Name → Option Rule
  pub arity : Rule → Arity
  pub given : Name → Option (Given Rule)

abbrev pub count : Trees → ℕ
count no_trees = 0
count (more t ts) = suc (count ts)

module _ {Rule : Type 0} (words : Words Rule) where
  -- a word alone
  abbrev pub leaf_at : ℕ → Option Rule → Read (rules.Tree Rule)
  leaf_at at None = Err at
  leaf_at at (Some r) = if fits (words.arity r) 0 then Ok (rules.node r rules.no_trees, next at) else Err at

  abbrev mutual
    pub tree_at : ℕ → Tree → Read (rules.Tree Rule)
    tree_at at (Atom word) = leaf_at at (words.plain word)
    tree_at at (Node no_trees) = Err at
    tree_at at (Node (more (Node us) ts)) = Err at
    tree_at at (Node (more (Atom word) ts)) = list_at at (next (next at)) (words.plain word) (words.given word) ts

    -- of a list at this number, whose parts begin at that one
    pub list_at : ℕ → ℕ → Option Rule → Option (Given Rule) → Trees → Read (rules.Tree Rule)
    list_at at inner (Some r) _ (more t ts) =
        if fits (words.arity r) (suc (count ts)) then (do
          x ← tree_at inner t
          y ← trees_at x.1 ts
          Ok (rules.node r (rules.tree x.0 y.0), y.1)) else Err at
    list_at at inner None (Some g) (more t ts) =
        if fits g.arity (count ts) then (do
          x ← g.read inner t
          y ← trees_at x.1 ts
          Ok (rules.node x.0 y.0, y.1)) else Err at
    list_at at inner _ _ _ = Err at

    pub trees_at : ℕ → Trees → Read (rules.Trees Rule)
    trees_at at no_trees = Ok (rules.no_trees, at)
    trees_at at (more t ts) = do
      x ← tree_at at t
      y ← trees_at x.1 ts
      Ok (rules.tree x.0 y.0, y.1)
