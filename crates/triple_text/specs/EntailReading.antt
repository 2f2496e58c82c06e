-- Trees read as trees of the rules of assertions.
use Rattle.std.specs.Prelude.{ℕ, Option, Some, None, Ok, Err}
use Rattle.ac_sx.specs.Tree.{Tree, Trees, Atom, Node, no_trees, more}
use Rattle.ac_sx.specs.CodeSx.{two_of, first_of}
use Rattle.expression_text.specs.Reading.{Read, next, ◌>>=◌, made}
use Rattle.expression_text.specs.Numbers.{number_at}
use Rattle.expression_text.specs.Words.{looked_up}
use Rattle.expression_text.specs.ExpReading.{exp_at}
use Rattle.expression_text.specs.Lists.{list_at}
use Rattle.rule_trees.specs.RuleTree as rules
use Rattle.triple_lang.specs.Entail as R
use Rattle.triple_lang.specs.CodeEntail.{leaf, over, over_both}
use Rattle.triple_text.specs.declared.entail_heads.EntailLeaf.{EntailLeaf}
use Rattle.triple_text.specs.declared.entail_heads.EntailLeaf.TheVariants as L
use Rattle.triple_text.specs.declared.entail_heads.EntailHead.{EntailHead}
use Rattle.triple_text.specs.declared.entail_heads.EntailHead.TheVariants as H
use Rattle.triple_text.specs.Words.{entail_leaf_word, entail_leaves, entail_head_word, entail_heads}

-- a number and a fact
abbrev pub weighed_row : ℕ → Option (Tree × Tree) → Read R.Weighed
weighed_row at None = Err at
weighed_row at (Some (k, e)) = do
  x ← number_at (next at) k
  y ← exp_at x.1 e
  Ok (record { weight = x.0; fact = y.0 }, y.1)

abbrev pub weighed_at : ℕ → Tree → Read R.Weighed
weighed_at at (Atom word) = Err at
weighed_at at (Node ts) = weighed_row at (two_of ts)

-- a number, and then facts with numbers
abbrev pub linear_row : ℕ → ℕ → Option (Tree × Trees) → Read (rules.Tree R.Rule)
linear_row at inner None = Err at
linear_row at inner (Some (k, ts)) = do
  x ← number_at inner k
  y ← list_at weighed_at x.1 ts
  Ok (leaf (R.Linear x.0 y.0), y.1)

abbrev pub leaf_rule : EntailLeaf → R.Rule
leaf_rule L.Hyp = R.Hyp
leaf_rule L.Same = R.Same
leaf_rule L.Compute = R.Compute
leaf_rule L.Range = R.Range

abbrev pub leaf_at : ℕ → Option EntailLeaf → Read (rules.Tree R.Rule)
leaf_at at None = Err at
leaf_at at (Some l) = Ok (leaf (leaf_rule l), next at)

-- of a list at this number, whose parts begin at that one
abbrev mutual
  pub entail_at : ℕ → Tree → Read (rules.Tree R.Rule)
  entail_at at (Atom word) = leaf_at at (looked_up entail_leaf_word entail_leaves word)
  entail_at at (Node no_trees) = Err at
  entail_at at (Node (more (Node us) ts)) = Err at
  entail_at at (Node (more (Atom word) ts)) = built_entail_at at (next (next at)) (looked_up entail_head_word entail_heads word) ts

  pub built_entail_at : ℕ → ℕ → Option EntailHead → Trees → Read (rules.Tree R.Rule)
  built_entail_at at inner (Some H.And) (more t (more u no_trees)) = do
    x ← entail_at inner t
    y ← entail_at x.1 u
    Ok (over_both R.And x.0 y.0, y.1)
  built_entail_at at inner (Some H.Imp) (more t no_trees) = made (over R.Imp) (entail_at inner t)
  built_entail_at at inner (Some H.Or) (more t no_trees) = made (over R.Or) (entail_at inner t)
  built_entail_at at inner (Some H.Not) (more t no_trees) = made (over R.Not) (entail_at inner t)
  built_entail_at at inner (Some H.Between) (more t (more u no_trees)) = do
    x ← entail_at inner t
    y ← entail_at x.1 u
    Ok (over_both R.Between x.0 y.0, y.1)
  built_entail_at at inner (Some H.Case) (more c (more t (more u no_trees))) = do
    e ← exp_at inner c
    x ← entail_at e.1 t
    y ← entail_at x.1 u
    Ok (over_both (R.Case e.0) x.0 y.0, y.1)
  built_entail_at at inner (Some H.Cut) (more c (more t (more u no_trees))) = do
    e ← exp_at inner c
    x ← entail_at e.1 t
    y ← entail_at x.1 u
    Ok (over_both (R.Cut e.0) x.0 y.0, y.1)
  built_entail_at at inner (Some H.Absurd) (more t no_trees) = made (over R.Absurd) (entail_at inner t)
  built_entail_at at inner (Some H.Rewrite) (more a (more b (more q (more t (more u no_trees))))) = do
    e ← exp_at inner a
    f ← exp_at e.1 b
    g ← exp_at f.1 q
    x ← entail_at g.1 t
    y ← entail_at x.1 u
    Ok (over_both (R.Rewrite e.0 f.0 g.0) x.0 y.0, y.1)
  built_entail_at at inner (Some H.Step) (more q (more t no_trees)) = do
    e ← exp_at inner q
    x ← entail_at e.1 t
    Ok (over (R.Step e.0) x.0, x.1)
  built_entail_at at inner (Some H.Linear) ts = linear_row at inner (first_of ts)
  built_entail_at at inner _ _ = Err at
