-- Trees read as Simpl commands.
use Rattle.std.specs.Prelude.{ℕ, Bool, true, false, List, Option, Some, None, Ok, Err, if◌then◌else◌}
use Rattle.c_values.specs.Name.{Name, same_name}
use Rattle.expression_lang.specs.GuardKind.{GuardKind}
use Rattle.ac_sx.specs.Tree.{Tree, Trees, Atom, Node, no_trees, more}
use Rattle.ac_sx.specs.CodeSx.{one_of, two_of, three_of, first_of}
use Rattle.expression_text.specs.Reading.{Read, next, ◌>>=◌}
use Rattle.expression_text.specs.Names.{is_name, name_at}
use Rattle.expression_text.specs.Words.{looked_up}
use Rattle.expression_text.specs.TypeReading.{type_at}
use Rattle.expression_text.specs.ExpReading.{exp_at, path_at}
use Rattle.expression_text.specs.ExpRows.{with_second}
use Rattle.expression_text.specs.Lists.{list_at, exps_at}
use Rattle.program_text.specs.MonReading.{four_of}
use Rattle.simpl_lang.specs.Command.{Condition, Simpl, Skip, Throw, Set, SetGlobal, Store, Pick, Seq, Cond, Guard, Catch, While, Call}
use Rattle.command_text.specs.declared.heads.CommandHead.{CommandHead}
use Rattle.command_text.specs.declared.heads.CommandHead.TheVariants as H
use Rattle.command_text.specs.CommandText.{guard_word, guard_kinds, command_word, command_heads, skip_word, throw_word, no_target}

abbrev pub guard_kind_from : ℕ → Option GuardKind → Read GuardKind
guard_kind_from at None = Err at
guard_kind_from at (Some k) = Ok (k, next at)

abbrev pub guard_kind_at : ℕ → Tree → Read GuardKind
guard_kind_at at (Atom word) = guard_kind_from at (looked_up guard_word guard_kinds word)
guard_kind_at at (Node ts) = Err at

-- a kind and an expression
abbrev pub guarded_at : ℕ → Tree → Tree → Read Condition
guarded_at at k e = do
  x ← guard_kind_at at k
  y ← exp_at x.1 e
  Ok (record { kind = x.0; exp = y.0 }, y.1)

abbrev pub condition_row : ℕ → Option (Tree × Tree) → Read Condition
condition_row at None = Err at
condition_row at (Some (k, e)) = guarded_at (next at) k e

abbrev pub condition_at : ℕ → Tree → Read Condition
condition_at at (Atom word) = Err at
condition_at at (Node ts) = condition_row at (two_of ts)

abbrev pub conditions_at : ℕ → Tree → Read (List Condition)
conditions_at at (Atom word) = Err at
conditions_at at (Node ts) = list_at condition_at (next at) ts

-- the name of a local, or what stands for none
abbrev pub target_at : ℕ → Tree → Read (Option Name)
target_at at (Atom word) =
    if same_name word no_target then Ok (None, next at)
    else if is_name word then Ok (Some word, next at)
    else Err at
target_at at (Node ts) = Err at

abbrev pub leaf_at : ℕ → Name → Read Simpl
leaf_at at word =
    if same_name word skip_word then Ok (Skip, next at)
    else if same_name word throw_word then Ok (Throw, next at)
    else Err at

-- of a list at this number, whose parts begin at that one: commands without commands in them
abbrev pub set_row : ℕ → ℕ → Option (Tree × Tree) → Read Simpl
set_row at inner None = Err at
set_row at inner (Some (x, e)) = do
  y ← name_at inner x
  z ← exp_at y.1 e
  Ok (Set y.0 z.0, z.1)

abbrev pub gset_row : ℕ → ℕ → Option (Tree × Tree × Tree) → Read Simpl
gset_row at inner None = Err at
gset_row at inner (Some (g, s, e)) = do
  x ← name_at inner g
  y ← path_at x.1 s
  z ← exp_at y.1 e
  Ok (SetGlobal x.0 y.0 z.0, z.1)

abbrev pub store_row : ℕ → ℕ → Option (Tree × Tree × Tree × Tree) → Read Simpl
store_row at inner None = Err at
store_row at inner (Some (t, p, s, e)) = do
  x ← type_at inner t
  y ← exp_at x.1 p
  z ← path_at y.1 s
  w ← exp_at z.1 e
  Ok (Store x.0 y.0 z.0 w.0, w.1)

abbrev pub pick_row : ℕ → ℕ → Option Tree → Read Simpl
pick_row at inner None = Err at
pick_row at inner (Some x) = do
  y ← name_at inner x
  Ok (Pick y.0, y.1)

abbrev pub call_row : ℕ → ℕ → Option (Tree × Tree × Trees) → Read Simpl
call_row at inner None = Err at
call_row at inner (Some (x, f, es)) = do
  y ← target_at inner x
  z ← name_at y.1 f
  w ← exps_at z.1 es
  Ok (Call y.0 z.0 w.0, w.1)

abbrev pub is_no_tree : Trees → Bool
is_no_tree no_trees = true
is_no_tree (more t ts) = false

abbrev pub begins_seq : Tree → Bool
begins_seq (Atom word) = false
begins_seq (Node no_trees) = false
begins_seq (Node (more (Node us) ts)) = false
begins_seq (Node (more (Atom word) ts)) = same_name word (command_word H.Seq)

abbrev mutual
  pub command_at : ℕ → Tree → Read Simpl
  command_at at (Atom word) = leaf_at at word
  command_at at (Node no_trees) = Err at
  command_at at (Node (more (Node us) ts)) = Err at
  command_at at (Node (more (Atom word) ts)) = built_command_at at (next (next at)) (looked_up command_word command_heads word) ts

  pub built_command_at : ℕ → ℕ → Option CommandHead → Trees → Read Simpl
  built_command_at at inner None ts = Err at
  built_command_at at inner (Some H.Set) ts = set_row at inner (two_of ts)
  built_command_at at inner (Some H.Gset) ts = gset_row at inner (three_of ts)
  built_command_at at inner (Some H.Store) ts = store_row at inner (four_of ts)
  built_command_at at inner (Some H.Pick) ts = pick_row at inner (one_of ts)
  built_command_at at inner (Some H.Seq) (more c cs) =
      if is_no_tree cs then Err at else (do
        x ← command_at inner c
        y ← sequence_at x.1 cs
        Ok (Seq x.0 y.0, y.1))
  built_command_at at inner (Some H.Seq) _ = Err at
  built_command_at at inner (Some H.Cond) (more e (more c (more d no_trees))) = do
    x ← exp_at inner e
    y ← command_at x.1 c
    z ← command_at y.1 d
    Ok (Cond x.0 y.0 z.0, z.1)
  built_command_at at inner (Some H.Cond) _ = Err at
  built_command_at at inner (Some H.Guard) (more k (more e (more c no_trees))) = do
    x ← guarded_at inner k e
    y ← command_at x.1 c
    Ok (Guard x.0 y.0, y.1)
  built_command_at at inner (Some H.Guard) _ = Err at
  built_command_at at inner (Some H.Catch) (more c (more d no_trees)) = do
    x ← command_at inner c
    y ← command_at x.1 d
    Ok (Catch x.0 y.0, y.1)
  built_command_at at inner (Some H.Catch) _ = Err at
  built_command_at at inner (Some H.While) (more as' (more e (more c no_trees))) = do
    x ← conditions_at inner as'
    y ← exp_at x.1 e
    z ← command_at y.1 c
    Ok (While x.0 y.0 z.0, z.1)
  built_command_at at inner (Some H.While) _ = Err at
  built_command_at at inner (Some H.Call) ts = call_row at inner (with_second (first_of ts))

  -- the last command isn't a sequence
  pub sequence_at : ℕ → Trees → Read Simpl
  sequence_at at no_trees = Err at
  sequence_at at (more c cs) =
      if is_no_tree cs then (if begins_seq c then Err at else command_at at c) else (do
        x ← command_at at c
        y ← sequence_at x.1 cs
        Ok (Seq x.0 y.0, y.1))
