-- Programs, as the writer writes them.
use Rattle.std.specs.Prelude.{ℕ, ◌<◌, List, [], ◌∷◌, Option, Some, None}
use Rattle.std.specs.Borrow.{Bor}
use Rattle.ac_sx.specs.Tree.{Trees, Atom, Node, no_trees, more}
use Rattle.ac_sx.specs.Writing.{Writing, written}
use Rattle.expression_text.specs.TypeText.{type_tree}
use Rattle.expression_text.specs.ExpText.{exp_tree, step_trees}
use Rattle.monad_lang.specs.declared.program.Mon as P
use Rattle.monad_lang.specs.declared.program.Mon.{size-Mon}
use Rattle.monad_lang.specs.CodeProgram.{mon_of}
use Rattle.monad_lang.specs.Program.{Place, Stored, Written, Global}
use Rattle.program_text.specs.declared.heads.MonHead.TheVariants as H
use Rattle.program_text.specs.MonText.{mon_word, three, mon_tree}

-- all of a write but its value
abbrev pub place_parts : Place → Trees
place_parts (Stored t p path) = more (Atom (mon_word H.Store)) (three (type_tree t) (exp_tree p) (Node (step_trees path)))
place_parts (Written t p path) = more (Atom (mon_word H.Write)) (three (type_tree t) (exp_tree p) (Node (step_trees path)))
place_parts (Global x path) = more (Atom (mon_word H.Gset)) (more (Atom x) (more (Node (step_trees path)) no_trees))

module _ {S : Type 0} (w : Writing S) where
  -- as many lists left
  abbrev pub lists_left : {A : Type 0} → List A → S → S
  lists_left [] s = s
  lists_left (x ∷ xs) s = w.left (lists_left xs s)

  -- a program that is written as far as its last program, where it is left
  abbrev pub mon_goes_on : Option (Bor P.Mon) → S → S
  mon_goes_on None s = s
  mon_goes_on (Some last) s = w.left (written w s (mon_tree (mon_of last.now)))

abbrev pub LastIsSmaller : Option (Bor P.Mon) → ℕ → Type 0
LastIsSmaller None n = Unit {0}
LastIsSmaller (Some last) n = size-Mon last.now < n
