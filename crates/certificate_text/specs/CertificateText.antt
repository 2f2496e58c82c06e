-- The text of a certificate: its version, with the target at the second, and for each function its name, its level, and its steps, each with the program after it and the
-- tree of rules that takes the one before to it. Only a function on typed heaps has a step to these.
use Rattle.std.specs.Prelude.{ℕ, Bool, true, false, ◌&&◌, List, [], ◌∷◌, Option, Some, None, codes}
use Rattle.c_values.specs.Name.{Name}
use Rattle.c_values.specs.Types.{Target, Ilp32, Lp64}
use Rattle.expression_lang.specs.Sort.{Level, Bytes, Words, Numbers}
use Rattle.ac_sx.specs.Tree.{Tree, Trees, Atom, Node, no_trees, more, file}
use Rattle.expression_text.specs.Lists.{each, trees_for}
use Rattle.expression_text.specs.Names.{is_name}
use Rattle.monad_lang.specs.Program.{Mon}
use Rattle.program_text.specs.MonText.{mon_tree, is_mon}
use Rattle.command_text.specs.CommandText.{command_tree, is_command}
use Rattle.rule_heap.specs.Rule as Heaps
use Rattle.rule_text.specs.ExceptionText as exceptions
use Rattle.rule_text.specs.LocalText as locals
use Rattle.rule_text.specs.HeapText as heaps
use Rattle.rule_text.specs.WordText as words
use Rattle.rule_text.specs.EqualityText as equality
use Rattle.acceptance.specs.Certificate.{Step, Steps}

abbrev pub target_word : Target → Name
target_word Ilp32 = codes "ilp32"
target_word Lp64 = codes "lp64"

abbrev pub targets : List Target
targets = Ilp32 ∷ Lp64 ∷ []

abbrev pub level_word : Level → Name
level_word Bytes = codes "bytes"
level_word Words = codes "words"
level_word Numbers = codes "numbers"

abbrev pub levels : List Level
levels = Bytes ∷ Words ∷ Numbers ∷ []

abbrev pub step_tree : Name → Tree → Tree → Tree
step_tree step program rules = Node (more (Atom step) (more program (more rules no_trees)))

-- before the other steps, where it is there
abbrev pub heap_before : Option (Step Mon Heaps.Rule) → Trees → Trees
heap_before None later = later
heap_before (Some s) later = more (step_tree (codes "heap") (mon_tree s.program) (heaps.text_of s.tree)) later

abbrev pub steps_trees : Steps → Trees
steps_trees c =
    more (step_tree (codes "exception") (command_tree c.exception.program) (exceptions.text_of c.exception.tree))
    (more (step_tree (codes "local") (mon_tree c.local.program) (locals.text_of c.local.tree))
    (heap_before c.heap
    (more (step_tree (codes "word") (mon_tree c.word.program) (words.text_of c.word.tree))
    (more (step_tree (codes "equal") (mon_tree c.equal.program) (equality.text_of c.equal.tree)) no_trees))))

abbrev pub function_tree : Steps → Tree
function_tree c = Node (more (Atom (codes "fun")) (more (Atom c.name) (more (Atom (level_word c.level)) (steps_trees c))))

-- a certificate of the first version is for ILP32, one of the second for the target that it names
pub data Version : Type 0 where
  One : Version
  Two : Target → Version

pub record Certificate : Type 0 where
  pub version : Version
  pub functions : List Steps

abbrev pub version_trees : Version → Trees → Trees
version_trees One fs = more (Atom (codes "1")) fs
version_trees (Two t) fs = more (Atom (codes "2")) (more (Atom (target_word t)) fs)

abbrev pub certificate_tree : Certificate → Tree
certificate_tree c = Node (more (Atom (codes "cert")) (version_trees c.version (trees_for function_tree c.functions)))

-- the text of the file
abbrev pub certificate_text : Certificate → List ℕ
certificate_text c = file (certificate_tree c)

-- Which have a text that says what they are: programs and trees that have one, under a name. The step to typed heaps is absent exactly at level bytes.
abbrev pub is_heap : Level → Option (Step Mon Heaps.Rule) → Bool
is_heap Bytes None = true
is_heap Bytes (Some s) = false
is_heap level None = false
is_heap level (Some s) = is_mon s.program && heaps.is_tree s.tree

abbrev pub is_function : Steps → Bool
is_function c =
    (is_name c.name && is_heap c.level c.heap)
    && ((is_command c.exception.program && exceptions.is_tree c.exception.tree)
    && ((is_mon c.local.program && locals.is_tree c.local.tree)
    && ((is_mon c.word.program && words.is_tree c.word.tree) && (is_mon c.equal.program && equality.is_tree c.equal.tree))))

abbrev pub is_certificate : Certificate → Bool
is_certificate c = each is_function c.functions
