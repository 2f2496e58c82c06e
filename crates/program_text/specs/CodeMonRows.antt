-- How each row of programs is read, of the parts that it has.
use Rattle.std.specs.Prelude.{ℕ, Option, Some, None, Ok, Err, if◌then◌else◌}
use Rattle.c_values.specs.Name.{Name}
use Rattle.ac_sx.specs.Tree.{Tree, Trees}
use Rattle.ac_sx.specs.CodeSx.{one_of, three_of, first_of}
use Rattle.expression_text.specs.Reading.{Read, next, ◌>>=◌}
use Rattle.expression_text.specs.Words.{looked_up}
use Rattle.expression_text.specs.ExpReading.{exp_at}
use Rattle.expression_text.specs.ExpRows.{with_second}
use Rattle.monad_lang.specs.Program.{Stored, Written, Mon, If, Loop}
use Rattle.program_text.specs.declared.heads.MonHead.{MonHead}
use Rattle.program_text.specs.declared.heads.MonHead.TheVariants as H
use Rattle.program_text.specs.MonText.{mon_word, mon_heads}
use Rattle.program_text.specs.MonReading.{four_of, starts_at, ret_row, guard_row, write_row, gset_row, call_row, pick_row, is_sequence, mon_at, sequence_at}

abbrev pub do_row : ℕ → ℕ → Trees → Read Mon
do_row at inner ts = if is_sequence ts then sequence_at inner ts else Err at

abbrev pub if_row : ℕ → ℕ → Option (Tree × Tree × Tree) → Read Mon
if_row at inner None = Err at
if_row at inner (Some (e, m, n)) = do
  x ← exp_at inner e
  y ← mon_at x.1 m
  z ← mon_at y.1 n
  Ok (If x.0 y.0 z.0, z.1)

abbrev pub loop_row : ℕ → ℕ → Option (Tree × Tree × Tree × Tree) → Read Mon
loop_row at inner None = Err at
loop_row at inner (Some (s, g, t, m)) = do
  x ← starts_at inner s
  y ← exp_at x.1 g
  z ← exp_at y.1 t
  w ← mon_at z.1 m
  Ok (Loop x.0 y.0 z.0 w.0, w.1)

abbrev pub row_at : ℕ → ℕ → MonHead → Trees → Read Mon
row_at at inner H.Ret ts = ret_row inner ts
row_at at inner H.Do ts = do_row at inner ts
row_at at inner H.Guard ts = guard_row at inner (one_of ts)
row_at at inner H.If ts = if_row at inner (three_of ts)
row_at at inner H.Store ts = write_row at inner Stored (four_of ts)
row_at at inner H.Write ts = write_row at inner Written (four_of ts)
row_at at inner H.Gset ts = gset_row at inner (three_of ts)
row_at at inner H.Loop ts = loop_row at inner (four_of ts)
row_at at inner H.Call ts = call_row at inner (first_of ts)
row_at at inner H.Pick ts = pick_row at inner (one_of ts)

-- of a list's head and parts
abbrev pub list_at : ℕ → Option MonHead → Trees → Read Mon
list_at at None ts = Err at
list_at at (Some h) ts = row_at at (next (next at)) h ts

abbrev pub mon_by : ℕ → Option (Name × Trees) → Read Mon
mon_by at None = Err at
mon_by at (Some (head, ts)) = list_at at (looked_up mon_word mon_heads head) ts

-- names, a program and the others, of two parts at least and one that isn't the last
abbrev pub bind_of : Trees → Option (Tree × Tree × Trees)
bind_of ts = with_second (first_of ts)
