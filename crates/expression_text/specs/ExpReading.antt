-- Trees read as expressions.
use Rattle.std.specs.Prelude.{ℕ, ◌^◌, ℤ, true, false, Option, Some, None, Ok, Err, if◌then◌else◌}
use Rattle.c_values.specs.Name.{Name, same_name}
use Rattle.expression_lang.specs.Expression.{Exp, Var, WordLit, NumberLit, TruthLit, Between, If, Padd, Global, Sel, Upd, Path, Here, IntoField, IntoElement}
use Rattle.expression_lang.specs.CodeShape.{whole_one, whole_two, whole_root, whole_place}
use Rattle.ac_sx.specs.Tree.{Tree, Trees, Atom, Node, no_trees, more}
use Rattle.expression_text.specs.declared.heads.Head.{Head}
use Rattle.expression_text.specs.Reading.{Read, next, ◌>>=◌}
use Rattle.expression_text.specs.Names.{is_name, name_at}
use Rattle.expression_text.specs.Numbers.{natural_in, natural_at, number_in, number_at}
use Rattle.expression_text.specs.Words.{looked_up}
use Rattle.expression_text.specs.TypeReading.{type_at}
use Rattle.expression_text.specs.Head.{head_word, heads}
use Rattle.expression_text.specs.Row.{sized_one, Row, WordRow, UnaryRow, SizedRow, TwoRow, BetweenRow, IfRow, PaddRow, RootRow, PlaceRow, GlobalRow, SelRow, UpdRow, row_of}
use Rattle.expression_text.specs.ExpText.{is_width, truth_word, field_word, element_word}

-- a number that is a width
abbrev pub width_from : ℕ → Option ℕ → Read ℕ
width_from at None = Err at
width_from at (Some n) = if is_width n then Ok (n, next at) else Err at

abbrev pub width_at : ℕ → Tree → Read ℕ
width_at at (Atom word) = width_from at (natural_in word)
width_at at (Node ts) = Err at

abbrev pub number_leaf_at : ℕ → Option ℤ → Read Exp
number_leaf_at at None = Err at
number_leaf_at at (Some n) = Ok (NumberLit n, next at)

-- a truth value, a name or a number
abbrev pub leaf_at : ℕ → Name → Read Exp
leaf_at at word =
    if same_name word (truth_word true) then Ok (TruthLit true, next at)
    else if same_name word (truth_word false) then Ok (TruthLit false, next at)
    else if is_name word then Ok (Var word, next at)
    else number_leaf_at at (number_in word)

-- the row of the head that a word is
abbrev pub row_in : Option Head → Option Row
row_in None = None
row_in (Some h) = Some (row_of h)

pub data StepHead : Type 0 where
  FieldStep : StepHead
  ElementStep : StepHead

abbrev pub step_head : Name → Option StepHead
step_head word = if same_name word field_word then Some FieldStep else if same_name word element_word then Some ElementStep else None

-- of a list at this number, whose parts begin at that one
abbrev mutual
  pub exp_at : ℕ → Tree → Read Exp
  exp_at at (Atom word) = leaf_at at word
  exp_at at (Node no_trees) = Err at
  exp_at at (Node (more (Node us) ts)) = Err at
  exp_at at (Node (more (Atom word) ts)) = built_exp_at at (next (next at)) (row_in (looked_up head_word heads word)) ts

  pub built_exp_at : ℕ → ℕ → Option Row → Trees → Read Exp
  built_exp_at at inner (Some WordRow) (more n (more k no_trees)) = do
    x ← width_at inner n
    y ← natural_at (2 ^ x.0) x.1 k
    Ok (WordLit (record { width = x.0; bits = y.0 }), y.1)
  built_exp_at at inner (Some (UnaryRow one)) (more a no_trees) = do
    x ← exp_at inner a
    Ok (whole_one one x.0, x.1)
  built_exp_at at inner (Some (SizedRow sized)) (more n (more a no_trees)) = do
    x ← width_at inner n
    y ← exp_at x.1 a
    Ok (whole_one (sized_one sized x.0) y.0, y.1)
  built_exp_at at inner (Some (TwoRow two)) (more a (more b no_trees)) = do
    x ← exp_at inner a
    y ← exp_at x.1 b
    Ok (whole_two two x.0 y.0, y.1)
  built_exp_at at inner (Some BetweenRow) (more l (more a (more h no_trees))) = do
    x ← number_at inner l
    y ← exp_at x.1 a
    z ← number_at y.1 h
    Ok (Between x.0 y.0 z.0, z.1)
  built_exp_at at inner (Some IfRow) (more c (more a (more b no_trees))) = do
    x ← exp_at inner c
    y ← exp_at x.1 a
    z ← exp_at y.1 b
    Ok (If x.0 y.0 z.0, z.1)
  built_exp_at at inner (Some PaddRow) (more t (more p (more n no_trees))) = do
    x ← type_at inner t
    y ← exp_at x.1 p
    z ← exp_at y.1 n
    Ok (Padd x.0 y.0 z.0, z.1)
  built_exp_at at inner (Some (RootRow root)) (more t (more p no_trees)) = do
    x ← type_at inner t
    y ← exp_at x.1 p
    Ok (whole_root root x.0 y.0, y.1)
  built_exp_at at inner (Some (PlaceRow place)) (more t (more p steps)) = do
    x ← type_at inner t
    y ← exp_at x.1 p
    z ← steps_at y.1 steps
    Ok (whole_place place x.0 y.0 z.0, z.1)
  built_exp_at at inner (Some GlobalRow) (more x steps) = do
    y ← name_at inner x
    z ← steps_at y.1 steps
    Ok (Global y.0 z.0, z.1)
  built_exp_at at inner (Some SelRow) (more e (more s no_trees)) = do
    x ← exp_at inner e
    y ← step_at x.1 s
    Ok (Sel x.0 (y.0 Here), y.1)
  built_exp_at at inner (Some UpdRow) (more e (more s (more v no_trees))) = do
    x ← exp_at inner e
    y ← path_at x.1 s
    z ← exp_at y.1 v
    Ok (Upd x.0 y.0 z.0, z.1)
  built_exp_at at inner _ _ = Err at

  -- a list of steps
  pub path_at : ℕ → Tree → Read Path
  path_at at (Atom word) = Err at
  path_at at (Node ts) = steps_at (next at) ts

  pub steps_at : ℕ → Trees → Read Path
  steps_at at no_trees = Ok (Here, at)
  steps_at at (more s ss) = do
    x ← step_at at s
    y ← steps_at x.1 ss
    Ok (x.0 y.0, y.1)

  -- what comes before the other steps
  pub step_at : ℕ → Tree → Read (Path → Path)
  step_at at (Atom word) = Err at
  step_at at (Node no_trees) = Err at
  step_at at (Node (more (Node us) ts)) = Err at
  step_at at (Node (more (Atom word) ts)) = built_step_at at (next (next at)) (step_head word) ts

  pub built_step_at : ℕ → ℕ → Option StepHead → Trees → Read (Path → Path)
  built_step_at at inner (Some FieldStep) (more k no_trees) = do
    x ← natural_at (2 ^ 32) inner k
    Ok (IntoField x.0, x.1)
  built_step_at at inner (Some ElementStep) (more e no_trees) = do
    x ← exp_at inner e
    Ok (IntoElement x.0, x.1)
  built_step_at at inner _ _ = Err at
