-- Texts of trees of rules, read: what a tree is, and which node is bad.
use Rattle.std.proofs.Common.{◌≡◌, [], ◌∷◌, Ok, Err, refl}
use Rattle.std.specs.Prelude.{codes}
use Rattle.c_values.specs.Name.{Name}
use Rattle.ac_sx.specs.Tree.{Tree, Trees, Atom, Node, no_trees, more}
use Rattle.expression_lang.specs.Sort.{BoolKind}
use Rattle.rule_trees.specs.RuleTree as rules
use Rattle.rule_exn.specs.Rule as E
use Rattle.rule_word.specs.Rule as W
use Rattle.rule_text.specs.ExceptionText as exceptions
use Rattle.rule_text.specs.HeapText as heaps
use Rattle.rule_text.specs.WordText as words
use Rattle.rule_text.specs.EqualityText as equality

abbrev list : Name → Trees → Tree
list word ts = Node (more (Atom word) ts)

abbrev one : Tree → Trees
one t = more t no_trees

abbrev two : Tree → Tree → Trees
two t u = more t (one u)

abbrev three : Tree → Tree → Tree → Trees
three t u v = more t (two u v)

abbrev leaf : {Rule : Type 0} → Rule → rules.Tree Rule
leaf r = rules.node r rules.no_trees

abbrev with_one : {Rule : Type 0} → Rule → rules.Tree Rule → rules.Tree Rule
with_one r a = rules.node r (rules.tree a rules.no_trees)

abbrev with_two : {Rule : Type 0} → Rule → rules.Tree Rule → rules.Tree Rule → rules.Tree Rule
with_two r a b = rules.node r (rules.tree a (rules.tree b rules.no_trees))

-- (catch_skip (seq_test (seq_plain set throw) (guard skip)))
pub a_tree : exceptions.tree_at 0 (list (codes "catch_skip") (one (list (codes "seq_test") (two (list (codes "seq_plain") (two (Atom (codes "set")) (Atom (codes "throw")))) (list (codes "guard") (one (Atom (codes "skip"))))))))
    ≡ Ok (with_one E.CatchSkip (with_two E.SeqTest (with_two E.SeqPlain (leaf E.Set) (leaf E.Throw)) (with_one E.Guard (leaf E.Skip))), 11)
a_tree = refl

-- (set)
pub a_word_alone : exceptions.tree_at 0 (list (codes "set") no_trees) ≡ Err 0
a_word_alone = refl

-- guard
pub a_rule_that_needs_parts : exceptions.tree_at 0 (Atom (codes "guard")) ≡ Err 0
a_rule_that_needs_parts = refl

-- (seq_plain set (guard skip skip))
pub too_many_parts : exceptions.tree_at 0 (list (codes "seq_plain") (two (Atom (codes "set")) (list (codes "guard") (two (Atom (codes "skip")) (Atom (codes "skip")))))) ≡ Err 3
too_many_parts = refl

-- (seq_plain ret skip), ret being no word of these rules
pub another_word : exceptions.tree_at 0 (list (codes "seq_plain") (two (Atom (codes "ret")) (Atom (codes "skip")))) ≡ Err 2
another_word = refl

-- (bind (bool) (ret const) ret)
pub kinds_of_names : words.tree_at 0 (list (codes "bind") (three (Node (one (Atom (codes "bool")))) (list (codes "ret") (one (Atom (codes "const")))) (Atom (codes "ret"))))
    ≡ Ok (with_two (W.Bind (BoolKind ∷ [])) (with_one W.Ret (leaf W.Const)) (leaf W.Ret), 8)
kinds_of_names = refl

-- (bind (bool) ret), a part less
pub a_part_less : words.tree_at 0 (list (codes "bind") (two (Node (one (Atom (codes "bool")))) (Atom (codes "ret")))) ≡ Err 0
a_part_less = refl

-- bind, without its kinds
pub no_data : words.tree_at 0 (Atom (codes "bind")) ≡ Err 0
no_data = refl

-- (bind bool ret ret), whose data are no list
pub bad_data : words.tree_at 0 (list (codes "bind") (three (Atom (codes "bool")) (Atom (codes "ret")) (Atom (codes "ret")))) ≡ Err 2
bad_data = refl

-- (logic const), (logic const const) and logic
pub logic_of_one : words.tree_at 0 (list (codes "logic") (one (Atom (codes "const")))) ≡ Ok (with_one W.Logic (leaf W.Const), 3)
logic_of_one = refl

pub logic_of_two : words.tree_at 0 (list (codes "logic") (two (Atom (codes "const")) (Atom (codes "const")))) ≡ Ok (with_two W.Logic (leaf W.Const) (leaf W.Const), 4)
logic_of_two = refl

pub logic_of_none : words.tree_at 0 (Atom (codes "logic")) ≡ Err 0
logic_of_none = refl

-- (loop leaf leaf), and (loop leaf leaf (op)), whose last part is a word alone
pub a_loop_of_two : heaps.tree_at 0 (list (codes "loop") (two (Atom (codes "leaf")) (Atom (codes "leaf")))) ≡ Err 0
a_loop_of_two = refl

pub an_operator_alone : heaps.tree_at 0 (list (codes "loop") (three (Atom (codes "leaf")) (Atom (codes "leaf")) (list (codes "op") no_trees))) ≡ Err 4
an_operator_alone = refl

-- (loop refl refl), of equality, whose loops have one part
pub a_loop_of_equality : equality.tree_at 0 (list (codes "loop") (two (Atom (codes "refl")) (Atom (codes "refl")))) ≡ Err 0
a_loop_of_equality = refl
