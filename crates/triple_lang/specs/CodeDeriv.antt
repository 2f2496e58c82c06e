-- What the code's derivations and triples stand for.
use Rattle.std.specs.Prelude.{List, [], ◌∷◌, map, string_bytes}
use Rattle.expression_lang.specs.CodeExpression.{exp_of}
use Rattle.expression_lang.specs.CodeSort.{scalar_of}
use Rattle.rule_trees.specs.RuleTree.{Tree, Trees, node, no_trees, tree}
use Rattle.exactness.specs.Triple as X
use Rattle.triple_lang.specs.declared.deriv.Deriv as D
use Rattle.triple_lang.specs.declared.triple.Logical as L
use Rattle.triple_lang.specs.declared.triple.Triple as T
use Rattle.triple_lang.specs.declared.entail.Entail as S
use Rattle.triple_lang.specs.Entail as E
use Rattle.triple_lang.specs.CodeEntail as C
use Rattle.triple_lang.specs.Deriv.{Rule, Shows, Ret, Bind, Guard, If, Loop, Call, Pick, Write, Gset}
use Rattle.triple_lang.specs.Triple.{Triple}

abbrev mutual
  -- rules of assertions among those of programs
  pub as_shown : Tree E.Rule → Tree Rule
  as_shown (node rule ts) = node (Shows rule) (all_as_shown ts)

  pub all_as_shown : Trees E.Rule → Trees Rule
  all_as_shown no_trees = no_trees
  all_as_shown (tree t ts) = tree (as_shown t) (all_as_shown ts)

abbrev pub shows : S.Entail → Tree Rule
shows e = as_shown (C.tree_of e)

abbrev pub trees : List (Tree Rule) → Trees Rule
trees [] = no_trees
trees (t ∷ ts) = tree t (trees ts)

abbrev pub tree_of : D.Deriv → Tree Rule
tree_of (D.Ret e t) = node (Ret (exp_of e.value)) (trees (shows t.value ∷ []))
tree_of (D.Bind' e p t q u) = node (Bind (exp_of e.value)) (trees (tree_of t ∷ tree_of u ∷ []))
tree_of (D.Guard t u) = node Guard (trees (shows t.value ∷ shows u.value ∷ []))
tree_of (D.If' p t q u) = node If (trees (tree_of t ∷ tree_of u ∷ []))
tree_of (D.Loop' inv first begins guarded p kept last ends) =
    node (Loop (exp_of inv.value) (exp_of first.value) (exp_of last.value))
    (trees (shows begins.value ∷ shows guarded.value ∷ tree_of kept ∷ shows ends.value ∷ []))
tree_of (D.Call n ls before asked after given) =
    node (Call n (map exp_of ls.items) (exp_of before.value) (exp_of after.value)) (trees (shows asked.value ∷ shows given.value ∷ []))
tree_of (D.Pick t) = node Pick (trees (shows t.value ∷ []))
tree_of (D.Write e t) = node (Write (exp_of e.value)) (trees (shows t.value ∷ []))
tree_of (D.Gset e t) = node (Gset (exp_of e.value)) (trees (shows t.value ∷ []))

abbrev pub logical_of : L.Logical → X.Logical
logical_of x = record { name = string_bytes x.name; sort = scalar_of x.scalar }

abbrev pub triple_of : T.Triple → Triple
triple_of t = record {
  assertions = record {
    function = string_bytes t.function;
    logicals = map logical_of t.logicals.items;
    before = exp_of t.before;
    after = exp_of t.after;
  };
  derivation = tree_of t.derivation;
}
