-- Trees read as types.
use Rattle.std.specs.Prelude.{ℕ, ◌^◌, Option, Some, None, Ok, Err, codes, if◌then◌else◌}
use Rattle.c_values.specs.Name.{Name, same_name}
use Rattle.c_values.specs.Types.{IntType, CType, Integer, Void, Ptr, Struct, Array}
use Rattle.ac_sx.specs.Tree.{Tree, Trees, Atom, Node, no_trees, more}
use Rattle.ac_sx.specs.CodeSx.{one_of, two_of}
use Rattle.expression_text.specs.Reading.{Read, next, ◌>>=◌}
use Rattle.expression_text.specs.Names.{name_at}
use Rattle.expression_text.specs.Numbers.{natural_at}
use Rattle.expression_text.specs.Words.{looked_up, int_type_word, int_types, TypeHead, PtrHead, StructHead, ArrayHead, type_head_word, type_heads}

-- a type of one word
abbrev pub plain_type_at : ℕ → Name → Option IntType → Read CType
plain_type_at at word (Some i) = Ok (Integer i, next at)
plain_type_at at word None = if same_name word (codes "void") then Ok (Void, next at) else Err at

-- of a list at this number, whose parts begin at that one
abbrev mutual
  pub type_at : ℕ → Tree → Read CType
  type_at at (Atom word) = plain_type_at at word (looked_up int_type_word int_types word)
  type_at at (Node no_trees) = Err at
  type_at at (Node (more (Node us) ts)) = Err at
  type_at at (Node (more (Atom head) ts)) = built_type_at at (next (next at)) (looked_up type_head_word type_heads head) ts

  pub built_type_at : ℕ → ℕ → Option TypeHead → Trees → Read CType
  built_type_at at inner (Some PtrHead) (more t no_trees) = do
    x ← type_at inner t
    Ok (Ptr x.0, x.1)
  built_type_at at inner (Some StructHead) (more t no_trees) = do
    x ← name_at inner t
    Ok (Struct x.0, x.1)
  built_type_at at inner (Some ArrayHead) (more t (more n no_trees)) = do
    x ← type_at inner t
    y ← natural_at (2 ^ 32) x.1 n
    Ok (Array x.0 y.0, y.1)
  built_type_at at inner _ _ = Err at

-- the same, of the part of a list of one, or the two of two
abbrev pub ptr_type_at : ℕ → ℕ → Option Tree → Read CType
ptr_type_at at inner None = Err at
ptr_type_at at inner (Some t) = do
  x ← type_at inner t
  Ok (Ptr x.0, x.1)

abbrev pub struct_type_at : ℕ → ℕ → Option Tree → Read CType
struct_type_at at inner None = Err at
struct_type_at at inner (Some t) = do
  x ← name_at inner t
  Ok (Struct x.0, x.1)

abbrev pub array_type_at : ℕ → ℕ → Option (Tree × Tree) → Read CType
array_type_at at inner None = Err at
array_type_at at inner (Some (t, n)) = do
  x ← type_at inner t
  y ← natural_at (2 ^ 32) x.1 n
  Ok (Array x.0 y.0, y.1)

abbrev pub built_by : ℕ → ℕ → Option TypeHead → Trees → Read CType
built_by at inner None ts = Err at
built_by at inner (Some PtrHead) ts = ptr_type_at at inner (one_of ts)
built_by at inner (Some StructHead) ts = struct_type_at at inner (one_of ts)
built_by at inner (Some ArrayHead) ts = array_type_at at inner (two_of ts)

-- of a word, or of a list's head and parts
abbrev pub type_by : ℕ → Option Name → Option (Name × Trees) → Read CType
type_by at (Some word) _ = plain_type_at at word (looked_up int_type_word int_types word)
type_by at None (Some (head, ts)) = built_by at (next (next at)) (looked_up type_head_word type_heads head) ts
type_by at None None = Err at
