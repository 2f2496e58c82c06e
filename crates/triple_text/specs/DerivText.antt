-- Derivations as texts: as trees of the rules of assertions, but that what the rules of loops and calls take stands among the parts.
use Rattle.std.specs.Prelude.{◌^◌, nat_lt, Bool, false, ◌&&◌, Option, Some, None}
use Rattle.std.specs.Option.{option_map}
use Rattle.std.specs.Fmt.{decimal}
use Rattle.c_values.specs.Name.{Name}
use Rattle.ac_sx.specs.Tree.{Tree, Trees, Atom, Node, no_trees, more}
use Rattle.expression_text.specs.ExpText.{exp_tree, is_exp}
use Rattle.expression_text.specs.Lists.{each, exp_trees}
use Rattle.rule_trees.specs.RuleTree as rules
use Rattle.triple_lang.specs.Entail as E
use Rattle.triple_lang.specs.Deriv as R
use Rattle.triple_text.specs.declared.deriv_heads.DerivHead.TheVariants as H
use Rattle.triple_text.specs.Words.{deriv_head_word}
use Rattle.triple_text.specs.EntailText.{entail_word, entail_row, word_with, is_entail}

abbrev pub deriv_word : R.Rule → Name
deriv_word (R.Shows r) = entail_word r
deriv_word (R.Ret e) = deriv_head_word H.Ret
deriv_word (R.Bind e) = deriv_head_word H.Bind
deriv_word R.Guard = deriv_head_word H.Guard
deriv_word R.If = deriv_head_word H.If
deriv_word (R.Loop i f l) = deriv_head_word H.Loop
deriv_word (R.Call n es b a) = deriv_head_word H.Call
deriv_word R.Pick = deriv_head_word H.Pick
deriv_word (R.Write e) = deriv_head_word H.Write
deriv_word (R.Gset e) = deriv_head_word H.Gset

-- what stands behind the word, with the trees of the parts: of four parts in a loop, the last two around what the postcondition says of the last values,
-- and of two in a call, around what the postcondition of the other triple says
abbrev pub deriv_row : R.Rule → Trees → Trees
deriv_row (R.Shows r) ts = entail_row r ts
deriv_row (R.Ret e) ts = more (exp_tree e) ts
deriv_row (R.Bind e) ts = more (exp_tree e) ts
deriv_row R.Guard ts = ts
deriv_row R.If ts = ts
deriv_row (R.Loop i f l) (more t (more u (more v ts))) = more (exp_tree i) (more (exp_tree f) (more t (more u (more v (more (exp_tree l) ts)))))
deriv_row (R.Loop i f l) ts = ts
deriv_row (R.Call n es b a) (more t ts) = more (Atom (decimal n)) (more (Node (exp_trees es)) (more (exp_tree b) (more t (more (exp_tree a) ts))))
deriv_row (R.Call n es b a) ts = ts
deriv_row R.Pick ts = ts
deriv_row (R.Write e) ts = more (exp_tree e) ts
deriv_row (R.Gset e) ts = more (exp_tree e) ts

abbrev mutual
  pub deriv_tree : rules.Tree R.Rule → Tree
  deriv_tree (rules.node r ts) = word_with (deriv_word r) (deriv_row r (deriv_trees ts))

  pub deriv_trees : rules.Trees R.Rule → Trees
  deriv_trees rules.no_trees = no_trees
  deriv_trees (rules.tree t ts) = more (deriv_tree t) (deriv_trees ts)

abbrev pub with_part : Option (rules.Tree E.Rule) → Option (rules.Trees E.Rule) → Option (rules.Trees E.Rule)
with_part (Some t) (Some ts) = Some (rules.tree t ts)
with_part _ _ = None

abbrev mutual
  -- the tree of the rules of assertions that a tree is
  pub entail_in : rules.Tree R.Rule → Option (rules.Tree E.Rule)
  entail_in (rules.node (R.Shows r) ts) = option_map (λ us. rules.node r us) (entails_in ts)
  entail_in (rules.node _ ts) = None

  pub entails_in : rules.Trees R.Rule → Option (rules.Trees E.Rule)
  entails_in rules.no_trees = Some rules.no_trees
  entails_in (rules.tree t ts) = with_part (entail_in t) (entails_in ts)

abbrev pub is_some_entail : Option (rules.Tree E.Rule) → Bool
is_some_entail None = false
is_some_entail (Some t) = is_entail t

-- which trees of the rules of assertions have a text, among those of programs
abbrev pub is_shown : rules.Tree R.Rule → Bool
is_shown t = is_some_entail (entail_in t)

-- Which derivations have a text that says what they are: each rule has as many parts as it takes, of programs or of assertions as it takes them, its
-- expressions have texts, and the positions of triples are below 2^128.
abbrev mutual
  pub is_deriv : rules.Tree R.Rule → Bool
  is_deriv (rules.node r ts) = is_deriv_node r ts

  pub is_deriv_node : R.Rule → rules.Trees R.Rule → Bool
  is_deriv_node (R.Ret e) (rules.tree t rules.no_trees) = is_exp e && is_shown t
  is_deriv_node (R.Bind e) (rules.tree t (rules.tree u rules.no_trees)) = is_exp e && (is_deriv t && is_deriv u)
  is_deriv_node R.Guard (rules.tree t (rules.tree u rules.no_trees)) = is_shown t && is_shown u
  is_deriv_node R.If (rules.tree t (rules.tree u rules.no_trees)) = is_deriv t && is_deriv u
  is_deriv_node (R.Loop i f l) (rules.tree t (rules.tree u (rules.tree v (rules.tree w rules.no_trees)))) =
      is_exp i && (is_exp f && (is_shown t && (is_shown u && (is_deriv v && (is_exp l && is_shown w)))))
  is_deriv_node (R.Call n es b a) (rules.tree t (rules.tree u rules.no_trees)) =
      nat_lt n (2 ^ 128) && (each is_exp es && (is_exp b && (is_shown t && (is_exp a && is_shown u))))
  is_deriv_node R.Pick (rules.tree t rules.no_trees) = is_shown t
  is_deriv_node (R.Write e) (rules.tree t rules.no_trees) = is_exp e && is_shown t
  is_deriv_node (R.Gset e) (rules.tree t rules.no_trees) = is_exp e && is_shown t
  is_deriv_node _ _ = false
