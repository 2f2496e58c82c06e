-- Programs whose last program is apart, with the first part on the right.
use Rattle.std.specs.Prelude.{List, [], ◌∷◌, map, string_bytes}
use Rattle.expression_lang.specs.CodeExpression.{kind_of}
use Rattle.monad_lang.specs.Program as M
use Rattle.monad_lang.specs.CodeProgram.{mon_of}
use Rattle.rule_trees.specs.RuleTree.{node, no_trees, tree}
use Rattle.rule_word.specs.Rule as R
use Rattle.rule_word.specs.CodeRule.{tree_of}
use Rattle.rule_word.specs.ProgramsAbstracted.{AbstractedProgram}
use Rattle.word_abstract.specs.declared.passing.Front as F

abbrev pub with_front : F.Front → AbstractedProgram → AbstractedProgram
with_front f last = record {
  right = M.Bind (mon_of f.right.value) (map string_bytes f.names.items) last.right;
  tree = node (R.Bind (map kind_of f.kinds.items)) (tree (tree_of f.tree) (tree last.tree no_trees));
}

-- the first front first
abbrev pub with_fronts : List F.Front → AbstractedProgram → AbstractedProgram
with_fronts [] last = last
with_fronts (x ∷ xs) last = with_front x (with_fronts xs last)
