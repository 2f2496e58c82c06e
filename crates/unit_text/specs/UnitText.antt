-- The text of a unit's programs: of each function its name, its level, its parameters with their kinds, the kinds of its results, and its program.
use Rattle.std.specs.Prelude.{ℕ, Bool, ◌&&◌, List, codes}
use Rattle.ac_sx.specs.Tree.{Tree, Atom, Node, no_trees, more, file}
use Rattle.expression_lang.specs.Sort.{is_kind}
use Rattle.expression_lang.specs.Signature.{Binder}
use Rattle.expression_text.specs.Lists.{each, trees_for}
use Rattle.expression_text.specs.Names.{is_name}
use Rattle.monad_lang.specs.Program.{FinalFn, FinalUnit}
use Rattle.program_text.specs.Kinds.{kind_tree}
use Rattle.program_text.specs.MonText.{mon_tree, is_mon}
use Rattle.certificate_text.specs.CertificateText.{level_word}

abbrev pub parameter_tree : Binder → Tree
parameter_tree b = Node (more (Atom b.name) (more (kind_tree b.kind) no_trees))

abbrev pub function_tree : FinalFn → Tree
function_tree f =
    Node (more (Atom f.name) (more (Atom (level_word f.level)) (more (Node (trees_for parameter_tree f.params))
    (more (Node (trees_for kind_tree f.results)) (more (mon_tree f.body) no_trees)))))

abbrev pub unit_tree : FinalUnit → Tree
unit_tree u = Node (more (Atom (codes "program")) (trees_for function_tree u.functions))

-- the text of the file
abbrev pub unit_text : FinalUnit → List ℕ
unit_text u = file (unit_tree u)

-- Which programs have a text that says what they are: names are names, and programs and kinds have one.

abbrev pub is_parameter : Binder → Bool
is_parameter b = is_name b.name && is_kind b.kind

abbrev pub is_function : FinalFn → Bool
is_function f = (is_name f.name && each is_parameter f.params) && (each is_kind f.results && is_mon f.body)

abbrev pub is_unit : FinalUnit → Bool
is_unit u = each is_function u.functions
