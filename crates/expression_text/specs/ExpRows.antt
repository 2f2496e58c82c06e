-- How each row of expressions is read, of the parts that it has.
use Rattle.std.specs.Prelude.{ℕ, ◌^◌, Option, Some, None, Ok, Err}
use Rattle.c_values.specs.Name.{Name}
use Rattle.expression_lang.specs.Expression.{Exp, WordLit, Between, If, Padd, Global, Sel, Upd, Path, Here, IntoField, IntoElement}
use Rattle.expression_lang.specs.CodeShape.{One, Two, RootTest, PlaceHead, whole_one, whole_two, whole_root, whole_place}
use Rattle.ac_sx.specs.Tree.{Tree, Trees, no_trees, more}
use Rattle.ac_sx.specs.CodeSx.{one_of, two_of, three_of, first_of}
use Rattle.expression_text.specs.Reading.{Read, next, ◌>>=◌}
use Rattle.expression_text.specs.Names.{name_at}
use Rattle.expression_text.specs.Numbers.{natural_at, number_at}
use Rattle.expression_text.specs.Words.{looked_up}
use Rattle.expression_text.specs.TypeReading.{type_at}
use Rattle.expression_text.specs.Head.{head_word, heads}
use Rattle.expression_text.specs.Row.{Sized, sized_one, Row, WordRow, UnaryRow, SizedRow, TwoRow, BetweenRow, IfRow, PaddRow, RootRow, PlaceRow, GlobalRow, SelRow, UpdRow}
use Rattle.expression_text.specs.ExpReading.{width_at, leaf_at, row_in, StepHead, FieldStep, ElementStep, step_head, exp_at, path_at, steps_at, step_at}

abbrev pub word_row : ℕ → ℕ → Option (Tree × Tree) → Read Exp
word_row at inner None = Err at
word_row at inner (Some (n, k)) = do
  x ← width_at inner n
  y ← natural_at (2 ^ x.0) x.1 k
  Ok (WordLit (record { width = x.0; bits = y.0 }), y.1)

abbrev pub unary_row : ℕ → ℕ → One → Option Tree → Read Exp
unary_row at inner one None = Err at
unary_row at inner one (Some a) = do
  x ← exp_at inner a
  Ok (whole_one one x.0, x.1)

abbrev pub sized_row : ℕ → ℕ → Sized → Option (Tree × Tree) → Read Exp
sized_row at inner sized None = Err at
sized_row at inner sized (Some (n, a)) = do
  x ← width_at inner n
  y ← exp_at x.1 a
  Ok (whole_one (sized_one sized x.0) y.0, y.1)

abbrev pub two_row : ℕ → ℕ → Two → Option (Tree × Tree) → Read Exp
two_row at inner two None = Err at
two_row at inner two (Some (a, b)) = do
  x ← exp_at inner a
  y ← exp_at x.1 b
  Ok (whole_two two x.0 y.0, y.1)

abbrev pub between_row : ℕ → ℕ → Option (Tree × Tree × Tree) → Read Exp
between_row at inner None = Err at
between_row at inner (Some (l, a, h)) = do
  x ← number_at inner l
  y ← exp_at x.1 a
  z ← number_at y.1 h
  Ok (Between x.0 y.0 z.0, z.1)

abbrev pub if_row : ℕ → ℕ → Option (Tree × Tree × Tree) → Read Exp
if_row at inner None = Err at
if_row at inner (Some (c, a, b)) = do
  x ← exp_at inner c
  y ← exp_at x.1 a
  z ← exp_at y.1 b
  Ok (If x.0 y.0 z.0, z.1)

abbrev pub padd_row : ℕ → ℕ → Option (Tree × Tree × Tree) → Read Exp
padd_row at inner None = Err at
padd_row at inner (Some (t, p, n)) = do
  x ← type_at inner t
  y ← exp_at x.1 p
  z ← exp_at y.1 n
  Ok (Padd x.0 y.0 z.0, z.1)

abbrev pub root_row : ℕ → ℕ → RootTest → Option (Tree × Tree) → Read Exp
root_row at inner root None = Err at
root_row at inner root (Some (t, p)) = do
  x ← type_at inner t
  y ← exp_at x.1 p
  Ok (whole_root root x.0 y.0, y.1)

-- the first two, and the others
abbrev pub with_second : Option (Tree × Trees) → Option (Tree × Tree × Trees)
with_second None = None
with_second (Some (t, no_trees)) = None
with_second (Some (t, more p ts)) = Some (t, p, ts)

abbrev pub place_row : ℕ → ℕ → PlaceHead → Option (Tree × Tree × Trees) → Read Exp
place_row at inner place None = Err at
place_row at inner place (Some (t, p, steps)) = do
  x ← type_at inner t
  y ← exp_at x.1 p
  z ← steps_at y.1 steps
  Ok (whole_place place x.0 y.0 z.0, z.1)

abbrev pub global_row : ℕ → ℕ → Option (Tree × Trees) → Read Exp
global_row at inner None = Err at
global_row at inner (Some (x, steps)) = do
  y ← name_at inner x
  z ← steps_at y.1 steps
  Ok (Global y.0 z.0, z.1)

abbrev pub sel_row : ℕ → ℕ → Option (Tree × Tree) → Read Exp
sel_row at inner None = Err at
sel_row at inner (Some (e, s)) = do
  x ← exp_at inner e
  y ← step_at x.1 s
  Ok (Sel x.0 (y.0 Here), y.1)

abbrev pub upd_row : ℕ → ℕ → Option (Tree × Tree × Tree) → Read Exp
upd_row at inner None = Err at
upd_row at inner (Some (e, s, v)) = do
  x ← exp_at inner e
  y ← path_at x.1 s
  z ← exp_at y.1 v
  Ok (Upd x.0 y.0 z.0, z.1)

abbrev pub row_at : ℕ → ℕ → Row → Trees → Read Exp
row_at at inner WordRow ts = word_row at inner (two_of ts)
row_at at inner (UnaryRow one) ts = unary_row at inner one (one_of ts)
row_at at inner (SizedRow sized) ts = sized_row at inner sized (two_of ts)
row_at at inner (TwoRow two) ts = two_row at inner two (two_of ts)
row_at at inner BetweenRow ts = between_row at inner (three_of ts)
row_at at inner IfRow ts = if_row at inner (three_of ts)
row_at at inner PaddRow ts = padd_row at inner (three_of ts)
row_at at inner (RootRow root) ts = root_row at inner root (two_of ts)
row_at at inner (PlaceRow place) ts = place_row at inner place (with_second (first_of ts))
row_at at inner GlobalRow ts = global_row at inner (first_of ts)
row_at at inner SelRow ts = sel_row at inner (two_of ts)
row_at at inner UpdRow ts = upd_row at inner (three_of ts)

-- of a list's head and parts
abbrev pub list_at : ℕ → Option Row → Trees → Read Exp
list_at at None ts = Err at
list_at at (Some r) ts = row_at at (next (next at)) r ts

abbrev pub exp_by : ℕ → Option Name → Option (Name × Trees) → Read Exp
exp_by at (Some word) _ = leaf_at at word
exp_by at None (Some (head, ts)) = list_at at (row_in (looked_up head_word heads head)) ts
exp_by at None None = Err at

abbrev pub field_step : ℕ → ℕ → Option Tree → Read (Path → Path)
field_step at inner None = Err at
field_step at inner (Some k) = do
  x ← natural_at (2 ^ 32) inner k
  Ok (IntoField x.0, x.1)

abbrev pub element_step : ℕ → ℕ → Option Tree → Read (Path → Path)
element_step at inner None = Err at
element_step at inner (Some e) = do
  x ← exp_at inner e
  Ok (IntoElement x.0, x.1)

abbrev pub step_list_at : ℕ → Option StepHead → Trees → Read (Path → Path)
step_list_at at None ts = Err at
step_list_at at (Some FieldStep) ts = field_step at (next (next at)) (one_of ts)
step_list_at at (Some ElementStep) ts = element_step at (next (next at)) (one_of ts)

abbrev pub step_by : ℕ → Option (Name × Trees) → Read (Path → Path)
step_by at None = Err at
step_by at (Some (head, ts)) = step_list_at at (step_head head) ts
