-- The text of triples: the version and the triples, each with its function, its logical variables with their sorts, its assertions, and how it is derived.
use Rattle.std.specs.Prelude.{ℕ, Bool, true, ◌&&◌, List, codes}
use Rattle.std.specs.Fmt.{decimal}
use Rattle.c_values.specs.Name.{Name}
use Rattle.expression_lang.specs.Sort.{Scalar, WordSort, NumberSort, TruthSort, is_width}
use Rattle.ac_sx.specs.Tree.{Tree, Atom, Node, no_trees, more, file}
use Rattle.expression_text.specs.Names.{is_name}
use Rattle.expression_text.specs.ExpText.{exp_tree, is_exp}
use Rattle.expression_text.specs.Lists.{each, trees_for}
use Rattle.exactness.specs.Triple.{Logical}
use Rattle.triple_lang.specs.Triple.{Triple}
use Rattle.triple_text.specs.DerivText.{deriv_tree, is_deriv}

abbrev pub number_word : Name
number_word = codes "num"

abbrev pub truth_word : Name
truth_word = codes "bool"

abbrev pub width_word : Name
width_word = codes "w"

abbrev pub scalar_tree : Scalar → Tree
scalar_tree (WordSort n) = Node (more (Atom width_word) (more (Atom (decimal n)) no_trees))
scalar_tree NumberSort = Atom number_word
scalar_tree TruthSort = Atom truth_word

abbrev pub logical_tree : Logical → Tree
logical_tree x = Node (more (Atom x.name) (more (scalar_tree x.sort) no_trees))

abbrev pub triple_word : Name
triple_word = codes "triple"

abbrev pub triple_tree : Triple → Tree
triple_tree t =
    Node (more (Atom triple_word) (more (Atom t.assertions.function) (more (Node (trees_for logical_tree t.assertions.logicals))
    (more (exp_tree t.assertions.before) (more (exp_tree t.assertions.after) (more (deriv_tree t.derivation) no_trees))))))

abbrev pub triples_word : Name
triples_word = codes "triples"

abbrev pub version_word : Name
version_word = codes "1"

abbrev pub triples_tree : List Triple → Tree
triples_tree ts = Node (more (Atom triples_word) (more (Atom version_word) (trees_for triple_tree ts)))

-- the text of the file
abbrev pub triples_text : List Triple → List ℕ
triples_text ts = file (triples_tree ts)

-- Which triples have a text that says what they are: names are names, words have a width, and assertions and derivations have texts.
abbrev pub is_scalar : Scalar → Bool
is_scalar (WordSort n) = is_width n
is_scalar NumberSort = true
is_scalar TruthSort = true

abbrev pub is_logical : Logical → Bool
is_logical x = is_name x.name && is_scalar x.sort

abbrev pub is_triple : Triple → Bool
is_triple t =
    is_name t.assertions.function
    && (each is_logical t.assertions.logicals && (is_exp t.assertions.before && (is_exp t.assertions.after && is_deriv t.derivation)))

abbrev pub are_triples : List Triple → Bool
are_triples ts = each is_triple ts
