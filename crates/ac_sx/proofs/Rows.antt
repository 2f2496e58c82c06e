-- Parts of texts and tables of trees, worked out.
use Rattle.std.proofs.Common.{◌≡◌, true, false, List, [], ◌∷◌, ◌++◌, Err, refl}
use Rattle.std.specs.Prelude.{codes}
use Rattle.ac_sx.specs.declared.fault.SxFault.TheVariants.{NotText}
use Rattle.ac_sx.specs.Tree.{Tree, Atom, Node, no_trees, more, file, line_end}
use Rattle.ac_sx.specs.Spans.{parts_of}
use Rattle.ac_sx.specs.CodeSpans.{part, scanned}
use Rattle.ac_sx.specs.CodeRecogniser.{recognised}
use Rattle.ac_sx.specs.Table.{Entry, Word, Parts, trees_of, are_in_order}

abbrev a : Tree
a = Atom (codes "a")

abbrev empty : Tree
empty = Node no_trees

-- (a a)
abbrev pair : Tree
pair = Node (more a (more a no_trees))

-- (a (a a) ())
abbrev whole : Tree
whole = Node (more a (more pair (more empty no_trees)))

pub its_file : file whole ≡ codes "(a (a a) ())" ++ line_end ∷ []
its_file = refl

pub its_parts : parts_of whole ≡ part 1 2 1 ∷ part 3 8 3 ∷ part 9 11 1 ∷ []
its_parts = refl

pub scanned_parts : scanned (file whole) ≡ part 1 2 1 ∷ part 3 8 3 ∷ part 9 11 1 ∷ []
scanned_parts = refl

-- a root that is an atom has none
pub no_parts : parts_of a ≡ []
no_parts = refl

-- (a (a a) ()) by four numbers, though it has six nodes
abbrev table : List Entry
table = Word (codes "a") ∷ Parts (0 ∷ 0 ∷ []) ∷ Parts [] ∷ Parts (0 ∷ 1 ∷ 2 ∷ []) ∷ []

pub its_trees : trees_of table ≡ a ∷ pair ∷ empty ∷ whole ∷ []
its_trees = refl

pub its_order : are_in_order 0 table ≡ true
its_order = refl

-- a list that names itself
pub no_order : are_in_order 0 (Word (codes "a") ∷ Parts (1 ∷ []) ∷ []) ≡ false
no_order = refl

-- (a, and the line's end
pub broken_line : recognised (codes "(a" ++ line_end ∷ []) ≡ Err (NotText 2)
broken_line = refl
