-- What the code's lifted expressions stand for, and expressions whose last part is apart, with the other parts lifted.
use Rattle.std.specs.Prelude.{◌<◌, ℕ, List, [], ◌∷◌}
use Rattle.expression_lang.specs.declared.expression.Exp.{size-Exp}
use Rattle.expression_lang.specs.declared.paths.Path.{size-Path}
use Rattle.expression_lang.specs.Expression.{Path, Here}
use Rattle.expression_lang.specs.CodeExpression.{exp_of, path_of}
use Rattle.expression_lang.specs.CodeShapeView as shape
use Rattle.rule_trees.specs.RuleTree.{Trees, node, no_trees, tree}
use Rattle.rule_heap.specs.Rule.{Rule}
use Rattle.rule_heap.specs.ExpLifted.{path_lifted, path_trees}
use Rattle.rule_heap.specs.CodeRule.{rule_of, tree_of}
use Rattle.heap_lift.specs.declared.exp_fronts.ExpFront as F
use Rattle.heap_lift.specs.declared.exp_fronts.LiftedExp as E
use Rattle.heap_lift.specs.declared.exps.Opening as O
use Rattle.heap_lift.specs.declared.exps.PathOpening as Q
use Rattle.heap_lift.specs.CodeTrees.{with_trees}
use Rattle.heap_lift.specs.Lifted.{LiftedExp, lifted_exp}

abbrev pub exp_in : E.LiftedExp → LiftedExp
exp_in e = record { right = exp_of e.right.value; tree = tree_of e.tree }

abbrev pub with_front : F.ExpFront → LiftedExp → LiftedExp
with_front front last = record {
  right = shape.with_front front.exp last.right;
  tree = node (rule_of front.rule) (with_trees front.before.items (tree last.tree (with_trees front.after.items no_trees)));
}

-- the first front first
abbrev pub with_fronts : List F.ExpFront → LiftedExp → LiftedExp
with_fronts [] last = last
with_fronts (x ∷ xs) last = with_front x (with_fronts xs last)

abbrev pub opened_in : O.Opening → LiftedExp
opened_in (O.TheVariants.Ended e) = exp_in e.value
opened_in (O.TheVariants.Last front last) = with_front front (lifted_exp (exp_of last.now))

abbrev pub LastIsSmaller : O.Opening → ℕ → Type 0
LastIsSmaller (O.TheVariants.Ended e) n = Unit {0}
LastIsSmaller (O.TheVariants.Last front last) n = size-Exp last.now < n

abbrev pub path_opened_in : Q.PathOpening → Path
path_opened_in Q.TheVariants.Ended = Here
path_opened_in (Q.TheVariants.Last step trees rest) = shape.with_step step (path_lifted (path_of rest.now))

-- the trees of the indices, and then more
abbrev pub trees_opened_in : Q.PathOpening → Trees Rule → Trees Rule
trees_opened_in Q.TheVariants.Ended more = more
trees_opened_in (Q.TheVariants.Last step trees rest) more = with_trees trees.items (path_trees (path_of rest.now) more)

abbrev pub RestIsSmaller : Q.PathOpening → ℕ → Type 0
RestIsSmaller Q.TheVariants.Ended n = Unit {0}
RestIsSmaller (Q.TheVariants.Last step trees rest) n = size-Path rest.now < n
