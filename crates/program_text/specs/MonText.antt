-- Monadic programs as trees.
use Rattle.std.specs.Prelude.{Bool, ◌&&◌, List, [], ◌∷◌, codes}
use Rattle.c_values.specs.Name.{Name, are_distinct}
use Rattle.expression_lang.specs.Expression.{Exp}
use Rattle.expression_lang.specs.Sort.{is_kind}
use Rattle.ac_sx.specs.Tree.{Tree, Trees, Atom, Node, no_trees, more}
use Rattle.expression_text.specs.Names.{is_name}
use Rattle.expression_text.specs.TypeText.{type_tree, is_type}
use Rattle.expression_text.specs.ExpText.{exp_tree, step_trees, is_exp, is_path}
use Rattle.expression_text.specs.Lists.{each, trees_for, exp_trees, names_tree}
use Rattle.monad_lang.specs.Program.{Place, Stored, Written, Global, Start, Mon, Ret, Bind, Guard, If, Write, Loop, Call, Pick}
use Rattle.monad_lang.specs.Run.{start_names}
use Rattle.program_text.specs.declared.heads.MonHead.{MonHead}
use Rattle.program_text.specs.declared.heads.MonHead.TheVariants as H
use Rattle.program_text.specs.Kinds.{kind_tree}

abbrev pub mon_word : MonHead → Name
mon_word H.Ret = codes "ret"
mon_word H.Do = codes "do"
mon_word H.Guard = codes "guard"
mon_word H.If = codes "if"
mon_word H.Store = codes "store"
mon_word H.Write = codes "write"
mon_word H.Gset = codes "gset"
mon_word H.Loop = codes "loop"
mon_word H.Call = codes "call"
mon_word H.Pick = codes "pick"

abbrev pub mon_heads : List MonHead
mon_heads = H.Ret ∷ H.Do ∷ H.Guard ∷ H.If ∷ H.Store ∷ H.Write ∷ H.Gset ∷ H.Loop ∷ H.Call ∷ H.Pick ∷ []

-- a list that begins with a head
abbrev pub begins : MonHead → Trees → Tree
begins h ts = Node (more (Atom (mon_word h)) ts)

abbrev pub two : Tree → Tree → Trees
two a b = more a (more b no_trees)

abbrev pub three : Tree → Tree → Tree → Trees
three a b c = more a (two b c)

abbrev pub four : Tree → Tree → Tree → Tree → Trees
four a b c d = more a (three b c d)

abbrev pub write_tree : Place → Exp → Tree
write_tree (Stored t p path) e = begins H.Store (four (type_tree t) (exp_tree p) (Node (step_trees path)) (exp_tree e))
write_tree (Written t p path) e = begins H.Write (four (type_tree t) (exp_tree p) (Node (step_trees path)) (exp_tree e))
write_tree (Global x path) e = begins H.Gset (three (Atom x) (Node (step_trees path)) (exp_tree e))

abbrev pub start_tree : Start → Tree
start_tree x = Node (two (Atom x.name) (exp_tree x.exp))

-- these programs in sequence, names and a program in turn and then a last program; one program alone is itself
abbrev pub sequence : Trees → Tree
sequence no_trees = begins H.Do no_trees
sequence (more t no_trees) = t
sequence (more t (more u us)) = begins H.Do (more t (more u us))

-- the parts of the sequence that a program is
abbrev pub sequence_parts : Mon → Trees
sequence_parts (Bind m xs n) = more (names_tree xs) (more (sequence (sequence_parts m)) (sequence_parts n))
sequence_parts (Ret es) = more (begins H.Ret (exp_trees es)) no_trees
sequence_parts (Guard e) = more (begins H.Guard (more (exp_tree e) no_trees)) no_trees
sequence_parts (If e m n) = more (begins H.If (three (exp_tree e) (sequence (sequence_parts m)) (sequence (sequence_parts n)))) no_trees
sequence_parts (Write place e) = more (write_tree place e) no_trees
sequence_parts (Loop starts guard test m) = more (begins H.Loop (four (Node (trees_for start_tree starts)) (exp_tree guard) (exp_tree test) (sequence (sequence_parts m)))) no_trees
sequence_parts (Call f es) = more (begins H.Call (more (Atom f) (exp_trees es))) no_trees
sequence_parts (Pick k) = more (begins H.Pick (more (kind_tree k) no_trees)) no_trees

abbrev pub mon_tree : Mon → Tree
mon_tree m = sequence (sequence_parts m)

abbrev pub is_place : Place → Bool
is_place (Stored t p path) = is_type t && (is_exp p && is_path path)
is_place (Written t p path) = is_type t && (is_exp p && is_path path)
is_place (Global x path) = is_name x && is_path path

abbrev pub is_start : Start → Bool
is_start x = is_name x.name && is_exp x.exp

-- Which programs have a text that says what they are: their expressions and types have, names are names, kinds are of widths, and the names
-- of one bind or loop are distinct.
abbrev pub is_mon : Mon → Bool
is_mon (Ret es) = each is_exp es
is_mon (Bind m xs n) = (each is_name xs && are_distinct xs) && (is_mon m && is_mon n)
is_mon (Guard e) = is_exp e
is_mon (If e m n) = is_exp e && (is_mon m && is_mon n)
is_mon (Write place e) = is_place place && is_exp e
is_mon (Loop starts guard test m) = (each is_start starts && are_distinct (start_names starts)) && (is_exp guard && (is_exp test && is_mon m))
is_mon (Call f es) = is_name f && each is_exp es
is_mon (Pick k) = is_kind k
