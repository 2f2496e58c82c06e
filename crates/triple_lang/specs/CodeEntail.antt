-- What the code's trees of rules stand for.
use Rattle.std.specs.Prelude.{map}
use Rattle.expression_lang.specs.CodeExpression.{exp_of}
use Rattle.rule_trees.specs.RuleTree.{Tree, node, no_trees, tree}
use Rattle.triple_lang.specs.declared.entail.Entail as E
use Rattle.triple_lang.specs.declared.entail.Weighed as W
use Rattle.triple_lang.specs.Entail.{Weighed, Rule, Hyp, Same, Compute, And, Imp, Or, Not, Between, Case, Cut, Absurd, Rewrite, Step, Range, Linear}

abbrev pub weighed_of : W.Weighed → Weighed
weighed_of w = record { weight = w.weight; fact = exp_of w.fact.value }

abbrev pub leaf : Rule → Tree Rule
leaf rule = node rule no_trees

abbrev pub over : Rule → Tree Rule → Tree Rule
over rule t = node rule (tree t no_trees)

abbrev pub over_both : Rule → Tree Rule → Tree Rule → Tree Rule
over_both rule t u = node rule (tree t (tree u no_trees))

abbrev pub tree_of : E.Entail → Tree Rule
tree_of E.Hyp = leaf Hyp
tree_of E.Same = leaf Same
tree_of E.Compute = leaf Compute
tree_of (E.And' p t q u) = over_both And (tree_of t) (tree_of u)
tree_of (E.Imp' p t) = over Imp (tree_of t)
tree_of (E.Or' p t) = over Or (tree_of t)
tree_of (E.Not' p t) = over Not (tree_of t)
tree_of (E.Between' p t q u) = over_both Between (tree_of t) (tree_of u)
tree_of (E.Case' c p t q u) = over_both (Case (exp_of c.value)) (tree_of t) (tree_of u)
tree_of (E.Cut' c p t q u) = over_both (Cut (exp_of c.value)) (tree_of t) (tree_of u)
tree_of (E.Absurd' p t) = over Absurd (tree_of t)
tree_of (E.Rewrite' a b e p t q u) = over_both (Rewrite (exp_of a.value) (exp_of b.value) (exp_of e.value)) (tree_of t) (tree_of u)
tree_of (E.Step' e p t) = over (Step (exp_of e.value)) (tree_of t)
tree_of E.Range = leaf Range
tree_of (E.Linear n ws) = leaf (Linear n (map weighed_of ws.items))
