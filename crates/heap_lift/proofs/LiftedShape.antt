-- What an expression is lifted to, at its shape.
use Rattle.std.proofs.Common.{◌≡◌, refl, ap, sym, ◌∙◌}
use Rattle.expression_lang.specs.Expression.{Exp, Between, If, Padd, Global, Sel, Upd}
use Rattle.expression_lang.specs.CodeShape.{Shape, LeafShape, OneShape, TwoShape, BetweenShape, IfShape, PaddShape, RootShape, PlaceShape, GlobalShape, SelShape, UpdShape, shape_of, whole_leaf, whole_one, whole_two, whole_root, whole_place}
use Rattle.rule_trees.specs.RuleTree.{node, no_trees, tree}
use Rattle.rule_heap.specs.Rule as R
use Rattle.rule_heap.specs.ExpLifted.{exp_lifted, path_lifted, exp_tree, path_trees, leaf, over_one, over_two, over_three, leaf_or_op}
use Rattle.heap_lift.specs.Lifted.{LiftedExp, lifted_exp, two_rule, root_rule, place_rule, place_lifted}

abbrev pub shape_lifted : Shape → LiftedExp
shape_lifted (LeafShape l) = record { right = whole_leaf l; tree = leaf R.Leaf }
shape_lifted (OneShape h a) = record { right = whole_one h (exp_lifted a); tree = over_one R.Op (exp_tree a) }
shape_lifted (TwoShape h a b) = record { right = whole_two h (exp_lifted a) (exp_lifted b); tree = over_two (two_rule h) (exp_tree a) (exp_tree b) }
shape_lifted (BetweenShape low a high) = record { right = Between low (exp_lifted a) high; tree = over_one R.Op (exp_tree a) }
shape_lifted (IfShape c a b) = record { right = If (exp_lifted c) (exp_lifted a) (exp_lifted b); tree = over_three R.Cond (exp_tree c) (exp_tree a) (exp_tree b) }
shape_lifted (PaddShape t p n) = record { right = Padd t (exp_lifted p) (exp_lifted n); tree = over_two R.Op (exp_tree p) (exp_tree n) }
shape_lifted (RootShape h t p) = record { right = whole_root h t (exp_lifted p); tree = over_one (root_rule h) (exp_tree p) }
shape_lifted (PlaceShape h t p path) = record {
  right = whole_place (place_lifted h) t (exp_lifted p) (path_lifted path);
  tree = node (place_rule h) (tree (exp_tree p) (path_trees path no_trees));
}
shape_lifted (GlobalShape x path) = record { right = Global x (path_lifted path); tree = leaf_or_op (path_trees path no_trees) }
shape_lifted (SelShape e path) = record { right = Sel (exp_lifted e) (path_lifted path); tree = node R.Op (tree (exp_tree e) (path_trees path no_trees)) }
shape_lifted (UpdShape e path v) = record {
  right = Upd (exp_lifted e) (path_lifted path) (exp_lifted v);
  tree = node R.Op (tree (exp_tree e) (path_trees path (tree (exp_tree v) no_trees)));
}

exp_shape : (e : Exp) → lifted_exp e ≡ shape_lifted (shape_of e)
exp_shape (Between low a high) = refl
exp_shape _ = refl

pub lifted_shape : (e : Exp) (s : Shape) → s ≡ shape_of e → lifted_exp e ≡ shape_lifted s
lifted_shape e s same = exp_shape e ∙ ap shape_lifted (sym same)
