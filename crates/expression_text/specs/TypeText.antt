-- Types as trees.
use Rattle.std.specs.Prelude.{ℕ, nat_lt, ◌^◌, Bool, true, ◌&&◌, List, [], ◌∷◌, codes}
use Rattle.std.specs.Fmt.{decimal}
use Rattle.c_values.specs.Types as T
use Rattle.ac_sx.specs.Tree.{Tree, Trees, Atom, Node, no_trees, more}
use Rattle.expression_text.specs.Names.{is_name}
use Rattle.expression_text.specs.Words.{int_type_word, type_head_word, PtrHead, StructHead, ArrayHead}

abbrev pub row : List Tree → Trees
row [] = no_trees
row (t ∷ ts) = more t (row ts)

-- a list that begins with a word
abbrev pub form : List ℕ → List Tree → Tree
form head parts = Node (more (Atom head) (row parts))

abbrev pub type_tree : T.CType → Tree
type_tree (T.Integer i) = Atom (int_type_word i)
type_tree T.Void = Atom (codes "void")
type_tree (T.Ptr t) = form (type_head_word PtrHead) (type_tree t ∷ [])
type_tree (T.Struct x) = form (type_head_word StructHead) (Atom x ∷ [])
type_tree (T.Array t n) = form (type_head_word ArrayHead) (type_tree t ∷ Atom (decimal n) ∷ [])

-- names of structs are names, and lengths have 32 bits
abbrev pub is_type : T.CType → Bool
is_type (T.Integer i) = true
is_type T.Void = true
is_type (T.Ptr t) = is_type t
is_type (T.Struct x) = is_name x
is_type (T.Array t n) = is_type t && nat_lt n (2 ^ 32)
