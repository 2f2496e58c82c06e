-- Types and expressions, as the writer writes them.
use Rattle.std.specs.Prelude.{ℕ, ◌<◌, ◌≤◌, List, [], ◌∷◌, Option, Some, None}
use Rattle.std.specs.Borrow.{Bor}
use Rattle.std.specs.Fmt.{decimal}
use Rattle.ac_sx.specs.Tree.{Tree, Trees, Atom, Node, no_trees, more}
use Rattle.ac_sx.specs.Writing.{Writing, written, all_written}
use Rattle.c_values.specs.Types as T
use Rattle.c_values.specs.declared.types.CType as C
use Rattle.c_values.specs.CodeTypes.{type_of}
use Rattle.expression_lang.specs.Expression as E
use Rattle.expression_lang.specs.declared.expression.Exp as X
use Rattle.expression_lang.specs.declared.paths.Path as Y
use Rattle.expression_lang.specs.declared.expression.Exp.{size-Exp}
use Rattle.expression_lang.specs.declared.paths.Path.{size-Path}
use Rattle.expression_lang.specs.CodeExpression.{exp_of, path_of}
use Rattle.expression_lang.specs.CodeShape.{One, CastOne, ToWordOne, Shape, LeafShape, OneShape, TwoShape, BetweenShape, IfShape, PaddShape, RootShape, PlaceShape, GlobalShape, SelShape, UpdShape, whole_leaf, shape_of}
use Rattle.expression_text.specs.declared.heads.Head.TheVariants as H
use Rattle.expression_text.specs.Numbers.{number_text}
use Rattle.expression_text.specs.Row.{one_head, two_head, root_head, place_head}
use Rattle.expression_text.specs.TypeText.{type_tree}
use Rattle.expression_text.specs.ExpText.{headed, exp_tree, step_trees}

-- the width before an operand, where there is one
abbrev pub widths : One → Trees → Trees
widths (CastOne op width) ts = more (Atom (decimal width)) ts
widths (ToWordOne width) ts = more (Atom (decimal width)) ts
widths _ ts = ts

abbrev pub shape_tree : Shape → Tree
shape_tree (LeafShape l) = exp_tree (whole_leaf l)
shape_tree (OneShape one a) = headed (one_head one) (widths one (more (exp_tree a) no_trees))
shape_tree (TwoShape two a b) = headed (two_head two) (more (exp_tree a) (more (exp_tree b) no_trees))
shape_tree (BetweenShape low a high) = headed H.Between (more (Atom (number_text low)) (more (exp_tree a) (more (Atom (number_text high)) no_trees)))
shape_tree (IfShape c a b) = headed H.If (more (exp_tree c) (more (exp_tree a) (more (exp_tree b) no_trees)))
shape_tree (PaddShape t p n) = headed H.Padd (more (type_tree t) (more (exp_tree p) (more (exp_tree n) no_trees)))
shape_tree (RootShape root t p) = headed (root_head root) (more (type_tree t) (more (exp_tree p) no_trees))
shape_tree (PlaceShape place t p path) = headed (place_head place) (more (type_tree t) (more (exp_tree p) (step_trees path)))
shape_tree (GlobalShape x path) = headed H.Global (more (Atom x) (step_trees path))
shape_tree (SelShape e path) = headed H.Sel (more (exp_tree e) (step_trees path))
shape_tree (UpdShape e path v) = headed H.Upd (more (exp_tree e) (more (Node (step_trees path)) (more (exp_tree v) no_trees)))

-- what stands behind the last part
abbrev pub behind : Shape → Trees
behind (LeafShape l) = no_trees
behind (OneShape one a) = no_trees
behind (TwoShape two a b) = no_trees
behind (BetweenShape low a high) = more (Atom (number_text high)) no_trees
behind (IfShape c a b) = no_trees
behind (PaddShape t p n) = no_trees
behind (RootShape root t p) = no_trees
behind (PlaceShape place t p path) = step_trees path
behind (GlobalShape x path) = no_trees
behind (SelShape e path) = step_trees path
behind (UpdShape e path v) = no_trees

module _ {S : Type 0} (w : Writing S) where
  -- the end of a type's list
  abbrev pub type_end : T.CType → S → S
  type_end (T.Integer i) s = w.left s
  type_end T.Void s = w.left s
  type_end (T.Ptr t) s = w.left s
  type_end (T.Struct x) s = w.left s
  type_end (T.Array t n) s = w.left (w.put s (decimal n))

  -- those of these types, the outermost first
  abbrev pub type_ends : List (Bor C.CType) → S → S
  type_ends [] s = s
  type_ends (t ∷ ts) s = type_end (type_of t.now) (type_ends ts s)

  -- the end of an expression's list, behind its last part
  abbrev pub exp_end : E.Exp → S → S
  exp_end e s = w.left (all_written w s (behind (shape_of e)))

  -- those of these expressions, the outermost first
  abbrev pub exp_ends : List (Bor X.Exp) → S → S
  exp_ends [] s = s
  exp_ends (e ∷ es) s = exp_end (exp_of e.now) (exp_ends es s)

  -- an expression that is written as far as its last part, where it is left
  abbrev pub exp_goes_on : E.Exp → Option (Bor X.Exp) → S → S
  exp_goes_on e None s = s
  exp_goes_on e (Some last) s = exp_end e (written w s (exp_tree (exp_of last.now)))

  -- the steps behind the first, where they are left
  abbrev pub path_goes_on : Option (Bor Y.Path) → S → S
  path_goes_on None s = s
  path_goes_on (Some rest) s = all_written w s (step_trees (path_of rest.now))

abbrev pub LastIsSmaller : Option (Bor X.Exp) → ℕ → Type 0
LastIsSmaller None n = Unit {0}
LastIsSmaller (Some last) n = size-Exp last.now < n

abbrev pub RestIsSmaller : Option (Bor Y.Path) → ℕ → Type 0
RestIsSmaller None n = Unit {0}
RestIsSmaller (Some rest) n = size-Path rest.now < n

-- no expression is larger
abbrev pub AreWithin : ℕ → List (Bor X.Exp) → Type 0
AreWithin n [] = Unit {0}
AreWithin n (e ∷ es) = (size-Exp e.now ≤ n) × AreWithin n es
