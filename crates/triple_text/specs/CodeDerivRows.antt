-- How each row of derivations of programs is read, of the parts that it has.
use Rattle.std.specs.Prelude.{ℕ, Option, Some, None, Ok, Err}
use Rattle.c_values.specs.Name.{Name}
use Rattle.expression_lang.specs.Expression.{Exp}
use Rattle.ac_sx.specs.Tree.{Tree, Trees}
use Rattle.ac_sx.specs.CodeSx.{one_of, two_of, three_of}
use Rattle.expression_text.specs.Reading.{Read, next, ◌>>=◌}
use Rattle.expression_text.specs.Words.{looked_up}
use Rattle.expression_text.specs.ExpReading.{exp_at}
use Rattle.rule_trees.specs.RuleTree as rules
use Rattle.triple_lang.specs.Deriv as R
use Rattle.triple_text.specs.declared.deriv_heads.DerivHead.{DerivHead}
use Rattle.triple_text.specs.declared.deriv_heads.DerivHead.TheVariants as H
use Rattle.triple_text.specs.declared.deriv_rules.GivenRule.{GivenRule}
use Rattle.triple_text.specs.declared.deriv_rules.GivenRule.TheVariants as Given
use Rattle.triple_text.specs.Words.{deriv_head_word, deriv_heads}
use Rattle.triple_text.specs.Parts.{six_of, seven_of}
use Rattle.triple_text.specs.DerivReading.{shown_at, given_row, guard_row, call_row, pick_row, deriv_at}

abbrev pub given_rule : GivenRule → Exp → R.Rule
given_rule Given.Ret e = R.Ret e
given_rule Given.Write e = R.Write e
given_rule Given.Gset e = R.Gset e

abbrev pub bind_row : ℕ → ℕ → Option (Tree × Tree × Tree) → Read (rules.Tree R.Rule)
bind_row at inner None = Err at
bind_row at inner (Some (e, t, u)) = do
  x ← exp_at inner e
  y ← deriv_at x.1 t
  z ← deriv_at y.1 u
  Ok (rules.node (R.Bind x.0) (rules.tree y.0 (rules.tree z.0 rules.no_trees)), z.1)

abbrev pub if_row : ℕ → ℕ → Option (Tree × Tree) → Read (rules.Tree R.Rule)
if_row at inner None = Err at
if_row at inner (Some (t, u)) = do
  x ← deriv_at inner t
  y ← deriv_at x.1 u
  Ok (rules.node R.If (rules.tree x.0 (rules.tree y.0 rules.no_trees)), y.1)

abbrev pub loop_row : ℕ → ℕ → Option (Tree × Tree × Tree × Tree × Tree × Tree × Tree) → Read (rules.Tree R.Rule)
loop_row at inner None = Err at
loop_row at inner (Some (i, f, t, u, v, l, w)) = do
  x ← exp_at inner i
  y ← exp_at x.1 f
  z ← shown_at y.1 t
  g ← shown_at z.1 u
  k ← deriv_at g.1 v
  e ← exp_at k.1 l
  q ← shown_at e.1 w
  Ok (rules.node (R.Loop x.0 y.0 e.0) (rules.tree z.0 (rules.tree g.0 (rules.tree k.0 (rules.tree q.0 rules.no_trees)))), q.1)

abbrev pub row_at : ℕ → ℕ → DerivHead → Trees → Read (rules.Tree R.Rule)
row_at at inner H.Ret ts = given_row at inner (λ e. R.Ret e) (two_of ts)
row_at at inner H.Bind ts = bind_row at inner (three_of ts)
row_at at inner H.Guard ts = guard_row at inner (two_of ts)
row_at at inner H.If ts = if_row at inner (two_of ts)
row_at at inner H.Loop ts = loop_row at inner (seven_of ts)
row_at at inner H.Call ts = call_row at inner (six_of ts)
row_at at inner H.Pick ts = pick_row at inner (one_of ts)
row_at at inner H.Write ts = given_row at inner (λ e. R.Write e) (two_of ts)
row_at at inner H.Gset ts = given_row at inner (λ e. R.Gset e) (two_of ts)

-- of a list's head and parts
abbrev pub list_at : ℕ → Option DerivHead → Trees → Read (rules.Tree R.Rule)
list_at at None ts = Err at
list_at at (Some h) ts = row_at at (next (next at)) h ts

abbrev pub deriv_by : ℕ → Option (Name × Trees) → Read (rules.Tree R.Rule)
deriv_by at None = Err at
deriv_by at (Some (head, ts)) = list_at at (looked_up deriv_head_word deriv_heads head) ts
