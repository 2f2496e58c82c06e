-- How each row of commands is read, of the parts that it has.
use Rattle.std.specs.Prelude.{ℕ, Option, Some, None, Ok, Err}
use Rattle.c_values.specs.Name.{Name}
use Rattle.ac_sx.specs.Tree.{Tree, Trees, no_trees, more}
use Rattle.ac_sx.specs.CodeSx.{one_of, two_of, three_of, first_of}
use Rattle.expression_text.specs.Reading.{Read, next, ◌>>=◌}
use Rattle.expression_text.specs.Words.{looked_up}
use Rattle.expression_text.specs.ExpReading.{exp_at}
use Rattle.expression_text.specs.ExpRows.{with_second}
use Rattle.program_text.specs.MonReading.{four_of}
use Rattle.simpl_lang.specs.Command.{Simpl, Cond, Guard, Catch, While}
use Rattle.command_text.specs.declared.heads.CommandHead.{CommandHead}
use Rattle.command_text.specs.declared.heads.CommandHead.TheVariants as H
use Rattle.command_text.specs.CommandText.{command_word, command_heads}
use Rattle.command_text.specs.CommandReading.{guarded_at, conditions_at, leaf_at, set_row, gset_row, store_row, pick_row, call_row, command_at, sequence_at}

-- the first command and the others, of two at least
abbrev pub front_of : Trees → Option (Tree × Trees)
front_of no_trees = None
front_of (more t no_trees) = None
front_of (more t (more u us)) = Some (t, more u us)

abbrev pub seq_by : ℕ → ℕ → Trees → Option (Tree × Trees) → Read Simpl
seq_by at inner ts None = Err at
seq_by at inner ts (Some x) = sequence_at inner ts

abbrev pub seq_row : ℕ → ℕ → Trees → Read Simpl
seq_row at inner ts = seq_by at inner ts (front_of ts)

abbrev pub cond_row : ℕ → ℕ → Option (Tree × Tree × Tree) → Read Simpl
cond_row at inner None = Err at
cond_row at inner (Some (e, c, d)) = do
  x ← exp_at inner e
  y ← command_at x.1 c
  z ← command_at y.1 d
  Ok (Cond x.0 y.0 z.0, z.1)

abbrev pub guard_row : ℕ → ℕ → Option (Tree × Tree × Tree) → Read Simpl
guard_row at inner None = Err at
guard_row at inner (Some (k, e, c)) = do
  x ← guarded_at inner k e
  y ← command_at x.1 c
  Ok (Guard x.0 y.0, y.1)

abbrev pub catch_row : ℕ → ℕ → Option (Tree × Tree) → Read Simpl
catch_row at inner None = Err at
catch_row at inner (Some (c, d)) = do
  x ← command_at inner c
  y ← command_at x.1 d
  Ok (Catch x.0 y.0, y.1)

abbrev pub while_row : ℕ → ℕ → Option (Tree × Tree × Tree) → Read Simpl
while_row at inner None = Err at
while_row at inner (Some (as', e, c)) = do
  x ← conditions_at inner as'
  y ← exp_at x.1 e
  z ← command_at y.1 c
  Ok (While x.0 y.0 z.0, z.1)

abbrev pub row_at : ℕ → ℕ → CommandHead → Trees → Read Simpl
row_at at inner H.Set ts = set_row at inner (two_of ts)
row_at at inner H.Gset ts = gset_row at inner (three_of ts)
row_at at inner H.Store ts = store_row at inner (four_of ts)
row_at at inner H.Pick ts = pick_row at inner (one_of ts)
row_at at inner H.Seq ts = seq_row at inner ts
row_at at inner H.Cond ts = cond_row at inner (three_of ts)
row_at at inner H.Guard ts = guard_row at inner (three_of ts)
row_at at inner H.Catch ts = catch_row at inner (two_of ts)
row_at at inner H.While ts = while_row at inner (three_of ts)
row_at at inner H.Call ts = call_row at inner (with_second (first_of ts))

-- of a list's head and parts
abbrev pub list_at : ℕ → Option CommandHead → Trees → Read Simpl
list_at at None ts = Err at
list_at at (Some h) ts = row_at at (next (next at)) h ts

-- of a word, or of a list's head and parts
abbrev pub command_by : ℕ → Option Name → Option (Name × Trees) → Read Simpl
command_by at (Some word) _ = leaf_at at word
command_by at None (Some (head, ts)) = list_at at (looked_up command_word command_heads head) ts
command_by at None None = Err at
