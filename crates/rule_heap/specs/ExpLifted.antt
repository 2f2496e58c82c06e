-- Expressions lifted to typed heaps: each load becomes a read; the tree of rules that leads there; and the condition
-- for it: each load stands where it is known that its root is covered and each index in range.
use Rattle.std.specs.Prelude.{List, ◌∷◌}
use Rattle.c_values.specs.Layout.{Layout}
use Rattle.expression_lang.specs.Expression.{Exp, Var, WordLit, NumberLit, TruthLit, WordBinary, WordShift, WordUnary, WordCompare, Cast, ToNat, ToInt, ToWord, Arith, Negate, Lt, Le, Between, Eq, And, Or, Imp, Not, If, Padd, At, Load, Read, Tagged, PtrOk, Global, Sel, Upd, Path, Here, IntoField, IntoElement}
use Rattle.ac_expr.specs.Fact.{Fact, Whole, NotTrue}
use Rattle.rule_trees.specs.RuleTree.{Tree, Trees, node, no_trees, tree}
use Rattle.rule_heap.specs.Rule as R
use Rattle.rule_heap.specs.Rule.{Rule}
use Rattle.rule_heap.specs.Table.{IsPlace}

abbrev mutual
  pub exp_lifted : Exp → Exp
  exp_lifted (Var x) = Var x
  exp_lifted (WordLit x) = WordLit x
  exp_lifted (NumberLit x) = NumberLit x
  exp_lifted (TruthLit x) = TruthLit x
  exp_lifted (WordBinary op a b) = WordBinary op (exp_lifted a) (exp_lifted b)
  exp_lifted (WordShift op a b) = WordShift op (exp_lifted a) (exp_lifted b)
  exp_lifted (WordUnary op a) = WordUnary op (exp_lifted a)
  exp_lifted (WordCompare op a b) = WordCompare op (exp_lifted a) (exp_lifted b)
  exp_lifted (Cast op n a) = Cast op n (exp_lifted a)
  exp_lifted (ToNat a) = ToNat (exp_lifted a)
  exp_lifted (ToInt a) = ToInt (exp_lifted a)
  exp_lifted (ToWord n a) = ToWord n (exp_lifted a)
  exp_lifted (Arith op a b) = Arith op (exp_lifted a) (exp_lifted b)
  exp_lifted (Negate a) = Negate (exp_lifted a)
  exp_lifted (Lt a b) = Lt (exp_lifted a) (exp_lifted b)
  exp_lifted (Le a b) = Le (exp_lifted a) (exp_lifted b)
  exp_lifted (Between low a high) = Between low (exp_lifted a) high
  exp_lifted (Eq a b) = Eq (exp_lifted a) (exp_lifted b)
  exp_lifted (And a b) = And (exp_lifted a) (exp_lifted b)
  exp_lifted (Or a b) = Or (exp_lifted a) (exp_lifted b)
  exp_lifted (Imp a b) = Imp (exp_lifted a) (exp_lifted b)
  exp_lifted (Not a) = Not (exp_lifted a)
  exp_lifted (If a b c) = If (exp_lifted a) (exp_lifted b) (exp_lifted c)
  exp_lifted (Padd t a b) = Padd t (exp_lifted a) (exp_lifted b)
  exp_lifted (At t a path) = At t (exp_lifted a) (path_lifted path)
  exp_lifted (Load t a path) = Read t (exp_lifted a) (path_lifted path)
  exp_lifted (Read t a path) = Read t (exp_lifted a) (path_lifted path)
  exp_lifted (Tagged t a) = Tagged t (exp_lifted a)
  exp_lifted (PtrOk t a) = PtrOk t (exp_lifted a)
  exp_lifted (Global x path) = Global x (path_lifted path)
  exp_lifted (Sel a path) = Sel (exp_lifted a) (path_lifted path)
  exp_lifted (Upd a path b) = Upd (exp_lifted a) (path_lifted path) (exp_lifted b)

  pub path_lifted : Path → Path
  path_lifted Here = Here
  path_lifted (IntoField k path) = IntoField k (path_lifted path)
  path_lifted (IntoElement e path) = IntoElement (exp_lifted e) (path_lifted path)

-- trees over parts
abbrev pub leaf : Rule → Tree Rule
leaf rule = node rule no_trees

abbrev pub over_one : Rule → Tree Rule → Tree Rule
over_one rule a = node rule (tree a no_trees)

abbrev pub over_two : Rule → Tree Rule → Tree Rule → Tree Rule
over_two rule a b = node rule (tree a (tree b no_trees))

abbrev pub over_three : Rule → Tree Rule → Tree Rule → Tree Rule → Tree Rule
over_three rule a b c = node rule (tree a (tree b (tree c no_trees)))

-- a global with an index has a child, and one without is a leaf
abbrev pub leaf_or_op : Trees Rule → Tree Rule
leaf_or_op no_trees = leaf R.Leaf
leaf_or_op (tree t ts) = node R.Op (tree t ts)

abbrev mutual
  pub exp_tree : Exp → Tree Rule
  exp_tree (Var x) = leaf R.Leaf
  exp_tree (WordLit x) = leaf R.Leaf
  exp_tree (NumberLit x) = leaf R.Leaf
  exp_tree (TruthLit x) = leaf R.Leaf
  exp_tree (WordBinary op a b) = over_two R.Op (exp_tree a) (exp_tree b)
  exp_tree (WordShift op a b) = over_two R.Op (exp_tree a) (exp_tree b)
  exp_tree (WordUnary op a) = over_one R.Op (exp_tree a)
  exp_tree (WordCompare op a b) = over_two R.Op (exp_tree a) (exp_tree b)
  exp_tree (Cast op n a) = over_one R.Op (exp_tree a)
  exp_tree (ToNat a) = over_one R.Op (exp_tree a)
  exp_tree (ToInt a) = over_one R.Op (exp_tree a)
  exp_tree (ToWord n a) = over_one R.Op (exp_tree a)
  exp_tree (Arith op a b) = over_two R.Op (exp_tree a) (exp_tree b)
  exp_tree (Negate a) = over_one R.Op (exp_tree a)
  exp_tree (Lt a b) = over_two R.Op (exp_tree a) (exp_tree b)
  exp_tree (Le a b) = over_two R.Op (exp_tree a) (exp_tree b)
  exp_tree (Between low a high) = over_one R.Op (exp_tree a)
  exp_tree (Eq a b) = over_two R.Op (exp_tree a) (exp_tree b)
  exp_tree (And a b) = over_two R.And (exp_tree a) (exp_tree b)
  exp_tree (Or a b) = over_two R.Or (exp_tree a) (exp_tree b)
  exp_tree (Imp a b) = over_two R.Imp (exp_tree a) (exp_tree b)
  exp_tree (Not a) = over_one R.Op (exp_tree a)
  exp_tree (If a b c) = over_three R.Cond (exp_tree a) (exp_tree b) (exp_tree c)
  exp_tree (Padd t a b) = over_two R.Op (exp_tree a) (exp_tree b)
  exp_tree (At t a path) = node R.Op (tree (exp_tree a) (path_trees path no_trees))
  exp_tree (Load t a path) = node R.Load (tree (exp_tree a) (path_trees path no_trees))
  exp_tree (Read t a path) = node R.Op (tree (exp_tree a) (path_trees path no_trees))
  exp_tree (Tagged t a) = over_one R.Tagged (exp_tree a)
  exp_tree (PtrOk t a) = over_one R.PtrOk (exp_tree a)
  exp_tree (Global x path) = leaf_or_op (path_trees path no_trees)
  exp_tree (Sel a path) = node R.Op (tree (exp_tree a) (path_trees path no_trees))
  exp_tree (Upd a path b) = node R.Op (tree (exp_tree a) (path_trees path (tree (exp_tree b) no_trees)))

  -- those of a path's indices, and then more
  pub path_trees : Path → Trees Rule → Trees Rule
  path_trees Here more = more
  path_trees (IntoField k path) more = path_trees path more
  path_trees (IntoElement e path) more = tree (exp_tree e) (path_trees path more)

-- Under facts of the right side. A read stands in no program on bytes.
abbrev mutual
  pub IsReady : Layout → List Fact → Exp → Type 0
  IsReady l fs (Var x) = Unit {0}
  IsReady l fs (WordLit x) = Unit {0}
  IsReady l fs (NumberLit x) = Unit {0}
  IsReady l fs (TruthLit x) = Unit {0}
  IsReady l fs (WordBinary op a b) = IsReady l fs a × IsReady l fs b
  IsReady l fs (WordShift op a b) = IsReady l fs a × IsReady l fs b
  IsReady l fs (WordUnary op a) = IsReady l fs a
  IsReady l fs (WordCompare op a b) = IsReady l fs a × IsReady l fs b
  IsReady l fs (Cast op n a) = IsReady l fs a
  IsReady l fs (ToNat a) = IsReady l fs a
  IsReady l fs (ToInt a) = IsReady l fs a
  IsReady l fs (ToWord n a) = IsReady l fs a
  IsReady l fs (Arith op a b) = IsReady l fs a × IsReady l fs b
  IsReady l fs (Negate a) = IsReady l fs a
  IsReady l fs (Lt a b) = IsReady l fs a × IsReady l fs b
  IsReady l fs (Le a b) = IsReady l fs a × IsReady l fs b
  IsReady l fs (Between low a high) = IsReady l fs a
  IsReady l fs (Eq a b) = IsReady l fs a × IsReady l fs b
  IsReady l fs (And a b) = IsReady l fs a × IsReady l (Whole (exp_lifted a) ∷ fs) b
  IsReady l fs (Or a b) = IsReady l fs a × IsReady l (NotTrue (exp_lifted a) ∷ fs) b
  IsReady l fs (Imp a b) = IsReady l fs a × IsReady l (Whole (exp_lifted a) ∷ fs) b
  IsReady l fs (Not a) = IsReady l fs a
  IsReady l fs (If a b c) =
      IsReady l fs a × IsReady l (Whole (exp_lifted a) ∷ fs) b × IsReady l (NotTrue (exp_lifted a) ∷ fs) c
  IsReady l fs (Padd t a b) = IsReady l fs a × IsReady l fs b
  IsReady l fs (At t a path) = IsReady l fs a × IsPathReady l fs path
  IsReady l fs (Load t a path) =
      IsPlace l fs t (exp_lifted a) (path_lifted path) × IsReady l fs a × IsPathReady l fs path
  IsReady l fs (Read t a path) = ⊥
  IsReady l fs (Tagged t a) = IsReady l fs a
  IsReady l fs (PtrOk t a) = IsReady l fs a
  IsReady l fs (Global x path) = IsPathReady l fs path
  IsReady l fs (Sel a path) = IsReady l fs a × IsPathReady l fs path
  IsReady l fs (Upd a path b) = IsReady l fs a × IsPathReady l fs path × IsReady l fs b

  pub IsPathReady : Layout → List Fact → Path → Type 0
  IsPathReady l fs Here = Unit {0}
  IsPathReady l fs (IntoField k path) = IsPathReady l fs path
  IsPathReady l fs (IntoElement e path) = IsReady l fs e × IsPathReady l fs path
