-- How each row of derivations of assertions is read, of the parts that it has.
use Rattle.std.specs.Prelude.{ℕ, Option, Some, None, Ok, Err}
use Rattle.c_values.specs.Name.{Name}
use Rattle.expression_lang.specs.Expression.{Exp}
use Rattle.ac_sx.specs.Tree.{Tree, Trees}
use Rattle.ac_sx.specs.CodeSx.{one_of, two_of, three_of, first_of}
use Rattle.expression_text.specs.Reading.{Read, next, ◌>>=◌, made}
use Rattle.expression_text.specs.Words.{looked_up}
use Rattle.expression_text.specs.ExpReading.{exp_at}
use Rattle.rule_trees.specs.RuleTree as rules
use Rattle.triple_lang.specs.Entail as R
use Rattle.triple_lang.specs.CodeEntail.{over, over_both}
use Rattle.triple_text.specs.declared.entail_heads.EntailHead.{EntailHead}
use Rattle.triple_text.specs.declared.entail_heads.EntailHead.TheVariants as H
use Rattle.triple_text.specs.declared.entail_rules.OneRule.{OneRule}
use Rattle.triple_text.specs.declared.entail_rules.OneRule.TheVariants as One
use Rattle.triple_text.specs.declared.entail_rules.TwoRule.{TwoRule}
use Rattle.triple_text.specs.declared.entail_rules.TwoRule.TheVariants as Two
use Rattle.triple_text.specs.declared.entail_rules.SplitRule.{SplitRule}
use Rattle.triple_text.specs.declared.entail_rules.SplitRule.TheVariants as Split
use Rattle.triple_text.specs.Words.{entail_leaf_word, entail_leaves, entail_head_word, entail_heads}
use Rattle.triple_text.specs.Parts.{five_of}
use Rattle.triple_text.specs.EntailReading.{linear_row, leaf_at, entail_at}

abbrev pub one_rule : OneRule → R.Rule
one_rule One.Imp = R.Imp
one_rule One.Or = R.Or
one_rule One.Not = R.Not
one_rule One.Absurd = R.Absurd

abbrev pub two_rule : TwoRule → R.Rule
two_rule Two.And = R.And
two_rule Two.Between = R.Between

abbrev pub split_rule : SplitRule → Exp → R.Rule
split_rule Split.Case e = R.Case e
split_rule Split.Cut e = R.Cut e

abbrev pub one_row : ℕ → ℕ → R.Rule → Option Tree → Read (rules.Tree R.Rule)
one_row at inner rule None = Err at
one_row at inner rule (Some t) = made (over rule) (entail_at inner t)

abbrev pub two_row : ℕ → ℕ → R.Rule → Option (Tree × Tree) → Read (rules.Tree R.Rule)
two_row at inner rule None = Err at
two_row at inner rule (Some (t, u)) = do
  x ← entail_at inner t
  y ← entail_at x.1 u
  Ok (over_both rule x.0 y.0, y.1)

abbrev pub split_row : ℕ → ℕ → (Exp → R.Rule) → Option (Tree × Tree × Tree) → Read (rules.Tree R.Rule)
split_row at inner rule None = Err at
split_row at inner rule (Some (c, t, u)) = do
  e ← exp_at inner c
  x ← entail_at e.1 t
  y ← entail_at x.1 u
  Ok (over_both (rule e.0) x.0 y.0, y.1)

abbrev pub rewrite_row : ℕ → ℕ → Option (Tree × Tree × Tree × Tree × Tree) → Read (rules.Tree R.Rule)
rewrite_row at inner None = Err at
rewrite_row at inner (Some (a, b, q, t, u)) = do
  e ← exp_at inner a
  f ← exp_at e.1 b
  g ← exp_at f.1 q
  x ← entail_at g.1 t
  y ← entail_at x.1 u
  Ok (over_both (R.Rewrite e.0 f.0 g.0) x.0 y.0, y.1)

abbrev pub step_row : ℕ → ℕ → Option (Tree × Tree) → Read (rules.Tree R.Rule)
step_row at inner None = Err at
step_row at inner (Some (q, t)) = do
  e ← exp_at inner q
  x ← entail_at e.1 t
  Ok (over (R.Step e.0) x.0, x.1)

abbrev pub row_at : ℕ → ℕ → EntailHead → Trees → Read (rules.Tree R.Rule)
row_at at inner H.And ts = two_row at inner R.And (two_of ts)
row_at at inner H.Imp ts = one_row at inner R.Imp (one_of ts)
row_at at inner H.Or ts = one_row at inner R.Or (one_of ts)
row_at at inner H.Not ts = one_row at inner R.Not (one_of ts)
row_at at inner H.Between ts = two_row at inner R.Between (two_of ts)
row_at at inner H.Case ts = split_row at inner (λ e. R.Case e) (three_of ts)
row_at at inner H.Cut ts = split_row at inner (λ e. R.Cut e) (three_of ts)
row_at at inner H.Absurd ts = one_row at inner R.Absurd (one_of ts)
row_at at inner H.Rewrite ts = rewrite_row at inner (five_of ts)
row_at at inner H.Step ts = step_row at inner (two_of ts)
row_at at inner H.Linear ts = linear_row at inner (first_of ts)

-- of a word
abbrev pub word_at : ℕ → Name → Read (rules.Tree R.Rule)
word_at at word = leaf_at at (looked_up entail_leaf_word entail_leaves word)

-- of a list's head and parts
abbrev pub list_at : ℕ → Option EntailHead → Trees → Read (rules.Tree R.Rule)
list_at at None ts = Err at
list_at at (Some h) ts = row_at at (next (next at)) h ts

-- of a word, or of a list's head and parts
abbrev pub entail_by : ℕ → Option Name → Option (Name × Trees) → Read (rules.Tree R.Rule)
entail_by at (Some word) _ = word_at at word
entail_by at None (Some (head, ts)) = list_at at (looked_up entail_head_word entail_heads head) ts
entail_by at None None = Err at
