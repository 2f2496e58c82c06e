-- Simpl commands as trees.
use Rattle.std.specs.Prelude.{Bool, true, ◌&&◌, List, [], ◌∷◌, Option, Some, None, codes}
use Rattle.c_values.specs.Name.{Name}
use Rattle.expression_lang.specs.GuardKind.{GuardKind, Div, Signed, Shift, Pointer, Bounds, Unreached, Tag, Wrap}
use Rattle.ac_sx.specs.Tree.{Tree, Trees, Atom, Node, no_trees, more}
use Rattle.expression_text.specs.Names.{is_name}
use Rattle.expression_text.specs.TypeText.{type_tree, is_type}
use Rattle.expression_text.specs.ExpText.{exp_tree, step_trees, is_exp, is_path}
use Rattle.expression_text.specs.Lists.{each, trees_for, exp_trees}
use Rattle.program_text.specs.MonText.{two, three, four}
use Rattle.simpl_lang.specs.Command.{Condition, Simpl, Skip, Throw, Set, SetGlobal, Store, Pick, Seq, Cond, Guard, Catch, While, Call}
use Rattle.command_text.specs.declared.heads.CommandHead.{CommandHead}
use Rattle.command_text.specs.declared.heads.CommandHead.TheVariants as H

abbrev pub guard_word : GuardKind → Name
guard_word Div = codes "div"
guard_word Signed = codes "signed"
guard_word Shift = codes "shift"
guard_word Pointer = codes "pointer"
guard_word Bounds = codes "bounds"
guard_word Unreached = codes "unreached"
guard_word Tag = codes "tag"
guard_word Wrap = codes "wrap"

abbrev pub guard_kinds : List GuardKind
guard_kinds = Div ∷ Signed ∷ Shift ∷ Pointer ∷ Bounds ∷ Unreached ∷ Tag ∷ Wrap ∷ []

abbrev pub command_word : CommandHead → Name
command_word H.Set = codes "set"
command_word H.Gset = codes "gset"
command_word H.Store = codes "store"
command_word H.Pick = codes "pick"
command_word H.Seq = codes "seq"
command_word H.Cond = codes "cond"
command_word H.Guard = codes "guard"
command_word H.Catch = codes "catch"
command_word H.While = codes "while"
command_word H.Call = codes "call"

abbrev pub command_heads : List CommandHead
command_heads = H.Set ∷ H.Gset ∷ H.Store ∷ H.Pick ∷ H.Seq ∷ H.Cond ∷ H.Guard ∷ H.Catch ∷ H.While ∷ H.Call ∷ []

abbrev pub skip_word : Name
skip_word = codes "skip"

abbrev pub throw_word : Name
throw_word = codes "throw"

-- a list that begins with a head
abbrev pub begins : CommandHead → Trees → Tree
begins h ts = Node (more (Atom (command_word h)) ts)

abbrev pub condition_tree : Condition → Tree
condition_tree c = Node (two (Atom (guard_word c.kind)) (exp_tree c.exp))

-- what stands for no local
abbrev pub no_target : Name
no_target = codes "-"

-- where a result goes
abbrev pub target_tree : Option Name → Tree
target_tree None = Atom no_target
target_tree (Some x) = Atom x

-- these commands in sequence; one command alone is itself
abbrev pub sequence : Trees → Tree
sequence no_trees = begins H.Seq no_trees
sequence (more t no_trees) = t
sequence (more t (more u us)) = begins H.Seq (more t (more u us))

-- the parts of the sequence that a command is
abbrev pub sequence_parts : Simpl → Trees
sequence_parts Skip = more (Atom skip_word) no_trees
sequence_parts Throw = more (Atom throw_word) no_trees
sequence_parts (Set x e) = more (begins H.Set (two (Atom x) (exp_tree e))) no_trees
sequence_parts (SetGlobal x path e) = more (begins H.Gset (three (Atom x) (Node (step_trees path)) (exp_tree e))) no_trees
sequence_parts (Store t p path e) = more (begins H.Store (four (type_tree t) (exp_tree p) (Node (step_trees path)) (exp_tree e))) no_trees
sequence_parts (Pick x) = more (begins H.Pick (more (Atom x) no_trees)) no_trees
sequence_parts (Seq c d) = more (sequence (sequence_parts c)) (sequence_parts d)
sequence_parts (Cond e c d) = more (begins H.Cond (three (exp_tree e) (sequence (sequence_parts c)) (sequence (sequence_parts d)))) no_trees
sequence_parts (Guard a c) = more (begins H.Guard (three (Atom (guard_word a.kind)) (exp_tree a.exp) (sequence (sequence_parts c)))) no_trees
sequence_parts (Catch c d) = more (begins H.Catch (two (sequence (sequence_parts c)) (sequence (sequence_parts d)))) no_trees
sequence_parts (While as' e c) = more (begins H.While (three (Node (trees_for condition_tree as')) (exp_tree e) (sequence (sequence_parts c)))) no_trees
sequence_parts (Call x f es) = more (begins H.Call (more (target_tree x) (more (Atom f) (exp_trees es)))) no_trees

abbrev pub command_tree : Simpl → Tree
command_tree c = sequence (sequence_parts c)

abbrev pub is_condition : Condition → Bool
is_condition c = is_exp c.exp

abbrev pub is_target : Option Name → Bool
is_target None = true
is_target (Some x) = is_name x

-- which commands have a text that says what they are: their expressions and types have, and names are names
abbrev pub is_command : Simpl → Bool
is_command Skip = true
is_command Throw = true
is_command (Set x e) = is_name x && is_exp e
is_command (SetGlobal x path e) = is_name x && (is_path path && is_exp e)
is_command (Store t p path e) = is_type t && (is_exp p && (is_path path && is_exp e))
is_command (Pick x) = is_name x
is_command (Seq c d) = is_command c && is_command d
is_command (Cond e c d) = is_exp e && (is_command c && is_command d)
is_command (Guard a c) = is_condition a && is_command c
is_command (Catch c d) = is_command c && is_command d
is_command (While as' e c) = each is_condition as' && (is_exp e && is_command c)
is_command (Call x f es) = is_target x && (is_name f && each is_exp es)
