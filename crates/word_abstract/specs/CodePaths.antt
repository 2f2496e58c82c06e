-- Paths of the code whose first step is made.
use Rattle.std.specs.Prelude.{◌<◌, ℕ}
use Rattle.expression_lang.specs.declared.paths.Path.{size-Path}
use Rattle.expression_lang.specs.Expression.{Path, Here}
use Rattle.expression_lang.specs.CodeExpression.{path_of}
use Rattle.expression_lang.specs.CodeShapeView.{with_step}
use Rattle.rule_trees.specs.RuleTree.{Trees}
use Rattle.rule_word.specs.Rule.{Rule}
use Rattle.word_abstract.specs.CodeTrees.{with_trees}
use Rattle.word_abstract.specs.CodePoints.{path_at, trees_at}
use Rattle.word_abstract.specs.declared.exps.Opening as Q
use Rattle.word_abstract.specs.declared.points.Point as P

abbrev pub path_opened_in : P.Point → Q.Opening → Path
path_opened_in p Q.TheVariants.Ended = Here
path_opened_in p (Q.TheVariants.Last step trees rest) = with_step step (path_at p (path_of rest.now))

-- the trees of the indices, and then more
abbrev pub trees_opened_in : P.Point → Q.Opening → Trees Rule → Trees Rule
trees_opened_in p Q.TheVariants.Ended more = more
trees_opened_in p (Q.TheVariants.Last step trees rest) more = with_trees trees.items (trees_at p (path_of rest.now) more)

abbrev pub RestIsSmaller : Q.Opening → ℕ → Type 0
RestIsSmaller Q.TheVariants.Ended n = Unit {0}
RestIsSmaller (Q.TheVariants.Last step trees rest) n = size-Path rest.now < n
