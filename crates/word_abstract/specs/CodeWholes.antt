-- Programs on the right, of their parts.
use Rattle.std.specs.Prelude.{List}
use Rattle.c_values.specs.Name.{Name}
use Rattle.expression_lang.specs.Sort.{Kind}
use Rattle.monad_lang.specs.Program as M
use Rattle.monad_lang.specs.Program.{Mon, Start}
use Rattle.rule_trees.specs.RuleTree.{Tree, Trees, node, no_trees, tree}
use Rattle.rule_word.specs.Rule as R
use Rattle.rule_word.specs.Rule.{Rule}
use Rattle.rule_word.specs.WordsAbstracted.{Abstracted}
use Rattle.rule_word.specs.ProgramsAbstracted.{AbstractedProgram}

abbrev pub tested : Abstracted → AbstractedProgram → AbstractedProgram → AbstractedProgram
tested x a b =
    record { right = M.If x.right a.right b.right; tree = node R.If (tree x.tree (tree a.tree (tree b.tree no_trees))) }

-- with the trees of the starts before others
abbrev pub looped : List Kind → List Start → (Trees Rule → Trees Rule) → Abstracted → Abstracted → AbstractedProgram → AbstractedProgram
looped ks starts before c t a = record {
  right = M.Loop starts c.right t.right a.right;
  tree = node (R.Loop ks) (before (tree c.tree (tree t.tree (tree a.tree no_trees))));
}

-- a first part whose values get names at kinds, and then more
abbrev pub bound : Mon → List Name → List Kind → Tree Rule → AbstractedProgram → AbstractedProgram
bound r xs js t last = record { right = M.Bind r xs last.right; tree = node (R.Bind js) (tree t (tree last.tree no_trees)) }
