-- Trees read as derivations.
use Rattle.std.specs.Prelude.{ℕ, ◌^◌, List, Option, Some, None, Ok, Err}
use Rattle.expression_lang.specs.Expression.{Exp}
use Rattle.ac_sx.specs.Tree.{Tree, Trees, Atom, Node, no_trees, more}
use Rattle.ac_sx.specs.CodeSx.{one_of, two_of}
use Rattle.expression_text.specs.Reading.{Read, next, ◌>>=◌, made}
use Rattle.expression_text.specs.Numbers.{natural_at}
use Rattle.expression_text.specs.Words.{looked_up}
use Rattle.expression_text.specs.ExpReading.{exp_at}
use Rattle.expression_text.specs.Lists.{exps_at}
use Rattle.rule_trees.specs.RuleTree as rules
use Rattle.triple_lang.specs.Deriv as R
use Rattle.triple_lang.specs.CodeDeriv.{as_shown}
use Rattle.triple_text.specs.declared.deriv_heads.DerivHead.{DerivHead}
use Rattle.triple_text.specs.declared.deriv_heads.DerivHead.TheVariants as H
use Rattle.triple_text.specs.Words.{deriv_head_word, deriv_heads}
use Rattle.triple_text.specs.Parts.{six_of}
use Rattle.triple_text.specs.EntailReading.{entail_at}

-- a tree of rules of assertions
abbrev pub shown_at : ℕ → Tree → Read (rules.Tree R.Rule)
shown_at at t = made as_shown (entail_at at t)

-- a list of expressions
abbrev pub values_at : ℕ → Tree → Read (List Exp)
values_at at (Atom word) = Err at
values_at at (Node ts) = exps_at (next at) ts

-- of a list at this number, whose parts begin at that one: rules without programs in them
abbrev pub given_row : ℕ → ℕ → (Exp → R.Rule) → Option (Tree × Tree) → Read (rules.Tree R.Rule)
given_row at inner rule None = Err at
given_row at inner rule (Some (e, t)) = do
  x ← exp_at inner e
  y ← shown_at x.1 t
  Ok (rules.node (rule x.0) (rules.tree y.0 rules.no_trees), y.1)

abbrev pub guard_row : ℕ → ℕ → Option (Tree × Tree) → Read (rules.Tree R.Rule)
guard_row at inner None = Err at
guard_row at inner (Some (t, u)) = do
  x ← shown_at inner t
  y ← shown_at x.1 u
  Ok (rules.node R.Guard (rules.tree x.0 (rules.tree y.0 rules.no_trees)), y.1)

abbrev pub call_row : ℕ → ℕ → Option (Tree × Tree × Tree × Tree × Tree × Tree) → Read (rules.Tree R.Rule)
call_row at inner None = Err at
call_row at inner (Some (k, es, b, t, a, u)) = do
  n ← natural_at (2 ^ 128) inner k
  v ← values_at n.1 es
  x ← exp_at v.1 b
  y ← shown_at x.1 t
  z ← exp_at y.1 a
  w ← shown_at z.1 u
  Ok (rules.node (R.Call n.0 v.0 x.0 z.0) (rules.tree y.0 (rules.tree w.0 rules.no_trees)), w.1)

abbrev pub pick_row : ℕ → ℕ → Option Tree → Read (rules.Tree R.Rule)
pick_row at inner None = Err at
pick_row at inner (Some t) = do
  x ← shown_at inner t
  Ok (rules.node R.Pick (rules.tree x.0 rules.no_trees), x.1)

abbrev mutual
  pub deriv_at : ℕ → Tree → Read (rules.Tree R.Rule)
  deriv_at at (Atom word) = Err at
  deriv_at at (Node no_trees) = Err at
  deriv_at at (Node (more (Node us) ts)) = Err at
  deriv_at at (Node (more (Atom word) ts)) = built_deriv_at at (next (next at)) (looked_up deriv_head_word deriv_heads word) ts

  pub built_deriv_at : ℕ → ℕ → Option DerivHead → Trees → Read (rules.Tree R.Rule)
  built_deriv_at at inner None ts = Err at
  built_deriv_at at inner (Some H.Ret) ts = given_row at inner (λ e. R.Ret e) (two_of ts)
  built_deriv_at at inner (Some H.Bind) (more e (more t (more u no_trees))) = do
    x ← exp_at inner e
    y ← deriv_at x.1 t
    z ← deriv_at y.1 u
    Ok (rules.node (R.Bind x.0) (rules.tree y.0 (rules.tree z.0 rules.no_trees)), z.1)
  built_deriv_at at inner (Some H.Bind) _ = Err at
  built_deriv_at at inner (Some H.Guard) ts = guard_row at inner (two_of ts)
  built_deriv_at at inner (Some H.If) (more t (more u no_trees)) = do
    x ← deriv_at inner t
    y ← deriv_at x.1 u
    Ok (rules.node R.If (rules.tree x.0 (rules.tree y.0 rules.no_trees)), y.1)
  built_deriv_at at inner (Some H.If) _ = Err at
  built_deriv_at at inner (Some H.Loop) (more i (more f (more t (more u (more v (more l (more w no_trees))))))) = do
    x ← exp_at inner i
    y ← exp_at x.1 f
    z ← shown_at y.1 t
    g ← shown_at z.1 u
    k ← deriv_at g.1 v
    e ← exp_at k.1 l
    q ← shown_at e.1 w
    Ok (rules.node (R.Loop x.0 y.0 e.0) (rules.tree z.0 (rules.tree g.0 (rules.tree k.0 (rules.tree q.0 rules.no_trees)))), q.1)
  built_deriv_at at inner (Some H.Loop) _ = Err at
  built_deriv_at at inner (Some H.Call) ts = call_row at inner (six_of ts)
  built_deriv_at at inner (Some H.Pick) ts = pick_row at inner (one_of ts)
  built_deriv_at at inner (Some H.Write) ts = given_row at inner (λ e. R.Write e) (two_of ts)
  built_deriv_at at inner (Some H.Gset) ts = given_row at inner (λ e. R.Gset e) (two_of ts)
