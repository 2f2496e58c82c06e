-- Trees read as monadic programs.
use Rattle.std.specs.Prelude.{ℕ, Bool, true, false, List, [], Option, Some, None, Ok, Err, if◌then◌else◌}
use Rattle.c_values.specs.Name.{Name, same_name}
use Rattle.c_values.specs.Types.{CType}
use Rattle.expression_lang.specs.Expression.{Exp, Path}
use Rattle.ac_sx.specs.Tree.{Tree, Trees, Atom, Node, no_trees, more}
use Rattle.ac_sx.specs.CodeSx.{one_of, two_of, three_of, first_of}
use Rattle.expression_text.specs.Reading.{Read, next, ◌>>=◌}
use Rattle.expression_text.specs.Names.{name_at}
use Rattle.expression_text.specs.Words.{looked_up}
use Rattle.expression_text.specs.TypeReading.{type_at}
use Rattle.expression_text.specs.ExpReading.{exp_at, path_at}
use Rattle.expression_text.specs.Lists.{exps_at, new_name_at, named_at, names_at}
use Rattle.monad_lang.specs.Program.{Place, Stored, Written, Global, Start, Mon, Ret, Bind, Guard, If, Write, Loop, Call, Pick}
use Rattle.program_text.specs.Kinds.{kind_at}
use Rattle.program_text.specs.declared.heads.MonHead.{MonHead}
use Rattle.program_text.specs.declared.heads.MonHead.TheVariants as H
use Rattle.program_text.specs.MonText.{mon_word, mon_heads}

abbrev pub before_three : Tree → Option (Tree × Tree × Tree) → Option (Tree × Tree × Tree × Tree)
before_three t None = None
before_three t (Some (u, v, w)) = Some (t, u, v, w)

-- the four of four
abbrev pub four_of : Trees → Option (Tree × Tree × Tree × Tree)
four_of no_trees = None
four_of (more t ts) = before_three t (three_of ts)

-- a name that is none of those before it, with an expression
abbrev pub start_row : ℕ → List Name → Option (Tree × Tree) → Read Start
start_row at before None = Err at
start_row at before (Some (x, e)) = do
  y ← new_name_at before (next at) x
  z ← exp_at y.1 e
  Ok (record { name = y.0; exp = z.0 }, z.1)

abbrev pub start_at : List Name → ℕ → Tree → Read Start
start_at before at (Atom word) = Err at
start_at before at (Node ts) = start_row at before (two_of ts)

abbrev pub starts_at : ℕ → Tree → Read (List Start)
starts_at at (Atom word) = Err at
starts_at at (Node ts) = named_at (λ (x : Start). x.name) start_at [] (next at) ts

-- of a list at this number, whose parts begin at that one: programs without programs in them
abbrev pub ret_row : ℕ → Trees → Read Mon
ret_row inner ts = do
  x ← exps_at inner ts
  Ok (Ret x.0, x.1)

abbrev pub guard_row : ℕ → ℕ → Option Tree → Read Mon
guard_row at inner None = Err at
guard_row at inner (Some e) = do
  x ← exp_at inner e
  Ok (Guard x.0, x.1)

abbrev pub write_row : ℕ → ℕ → (CType → Exp → Path → Place) → Option (Tree × Tree × Tree × Tree) → Read Mon
write_row at inner place None = Err at
write_row at inner place (Some (t, p, s, e)) = do
  x ← type_at inner t
  y ← exp_at x.1 p
  z ← path_at y.1 s
  w ← exp_at z.1 e
  Ok (Write (place x.0 y.0 z.0) w.0, w.1)

abbrev pub gset_row : ℕ → ℕ → Option (Tree × Tree × Tree) → Read Mon
gset_row at inner None = Err at
gset_row at inner (Some (g, s, e)) = do
  x ← name_at inner g
  y ← path_at x.1 s
  z ← exp_at y.1 e
  Ok (Write (Global x.0 y.0) z.0, z.1)

abbrev pub call_row : ℕ → ℕ → Option (Tree × Trees) → Read Mon
call_row at inner None = Err at
call_row at inner (Some (f, es)) = do
  x ← name_at inner f
  y ← exps_at x.1 es
  Ok (Call x.0 y.0, y.1)

abbrev pub pick_row : ℕ → ℕ → Option Tree → Read Mon
pick_row at inner None = Err at
pick_row at inner (Some k) = do
  x ← kind_at inner k
  Ok (Pick x.0, x.1)

-- names and a program in turn, at least once, and then a last program
abbrev pub is_odd : Trees → Bool
is_odd no_trees = false
is_odd (more t no_trees) = true
is_odd (more t (more u us)) = is_odd us

abbrev pub is_sequence : Trees → Bool
is_sequence no_trees = false
is_sequence (more t no_trees) = false
is_sequence (more t (more u us)) = is_odd us

abbrev pub begins_do : Tree → Bool
begins_do (Atom word) = false
begins_do (Node no_trees) = false
begins_do (Node (more (Node us) ts)) = false
begins_do (Node (more (Atom word) ts)) = same_name word (mon_word H.Do)

abbrev mutual
  pub mon_at : ℕ → Tree → Read Mon
  mon_at at (Atom word) = Err at
  mon_at at (Node no_trees) = Err at
  mon_at at (Node (more (Node us) ts)) = Err at
  mon_at at (Node (more (Atom word) ts)) = built_mon_at at (next (next at)) (looked_up mon_word mon_heads word) ts

  pub built_mon_at : ℕ → ℕ → Option MonHead → Trees → Read Mon
  built_mon_at at inner None ts = Err at
  built_mon_at at inner (Some H.Ret) ts = ret_row inner ts
  built_mon_at at inner (Some H.Do) (more xs (more m ns)) =
      if is_odd ns then (do
        x ← names_at inner xs
        y ← mon_at x.1 m
        z ← sequence_at y.1 ns
        Ok (Bind y.0 x.0 z.0, z.1)) else Err at
  built_mon_at at inner (Some H.Do) _ = Err at
  built_mon_at at inner (Some H.Guard) ts = guard_row at inner (one_of ts)
  built_mon_at at inner (Some H.If) (more e (more m (more n no_trees))) = do
    x ← exp_at inner e
    y ← mon_at x.1 m
    z ← mon_at y.1 n
    Ok (If x.0 y.0 z.0, z.1)
  built_mon_at at inner (Some H.If) _ = Err at
  built_mon_at at inner (Some H.Store) ts = write_row at inner Stored (four_of ts)
  built_mon_at at inner (Some H.Write) ts = write_row at inner Written (four_of ts)
  built_mon_at at inner (Some H.Gset) ts = gset_row at inner (three_of ts)
  built_mon_at at inner (Some H.Loop) (more s (more g (more t (more m no_trees)))) = do
    x ← starts_at inner s
    y ← exp_at x.1 g
    z ← exp_at y.1 t
    w ← mon_at z.1 m
    Ok (Loop x.0 y.0 z.0 w.0, w.1)
  built_mon_at at inner (Some H.Loop) _ = Err at
  built_mon_at at inner (Some H.Call) ts = call_row at inner (first_of ts)
  built_mon_at at inner (Some H.Pick) ts = pick_row at inner (one_of ts)

  -- the last program isn't a sequence
  pub sequence_at : ℕ → Trees → Read Mon
  sequence_at at no_trees = Err at
  sequence_at at (more t no_trees) = if begins_do t then Err at else mon_at at t
  sequence_at at (more xs (more m ns)) = do
    x ← names_at at xs
    y ← mon_at x.1 m
    z ← sequence_at y.1 ns
    Ok (Bind y.0 x.0 z.0, z.1)
