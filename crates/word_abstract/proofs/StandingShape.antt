-- What an expression stands for, at its shape.
use Rattle.std.proofs.Common.{◌≡◌, Bool, true, false, if◌then◌else◌, List, Some, None, refl, sym, ap, ◌∙◌}
use Rattle.expression_lang.specs.Expression as X
use Rattle.expression_lang.specs.Expression.{Exp}
use Rattle.expression_lang.specs.Sort.{Scope}
use Rattle.expression_lang.specs.Signature.{Binder}
use Rattle.expression_lang.specs.CodeShape.{Two, AndTwo, OrTwo, ImpTwo, Shape, LeafShape, OneShape, TwoShape, BetweenShape, IfShape, PaddShape, RootShape, PlaceShape, GlobalShape, SelShape, UpdShape, shape_of, whole_root, whole_place}
use Rattle.ac_expr.specs.Fact.{Whole, NotTrue}
use Rattle.rule_trees.specs.RuleTree.{no_trees, tree}
use Rattle.rule_word.specs.Scopes.{names_in, width_in}
use Rattle.rule_word.specs.Bases.{Surroundings, under}
use Rattle.rule_word.specs.WordsAbstracted.{one, two, or_zero}
use Rattle.word_abstract.specs.CodeConnectives.{connective}
use Rattle.word_abstract.specs.CodeMeaning.{Standing, Chosen, word_of, leaf_standing, operator, connected, one_standing, two_standing, standing, path_standing, path_trees}

module _ (same : Exp → Exp → Bool) (numbers : Bool) (g : Scope) (names : List Binder) where
  abbrev pub shape_standing : Surroundings → Shape → Standing
  shape_standing k (LeafShape l) = leaf_standing (names_in (λ j. j) names) l
  shape_standing k (OneShape h a) = one_standing same numbers g names k h (or_zero (width_in g a)) (standing same numbers g names k a)
  shape_standing k (TwoShape AndTwo a b) =
      let x = word_of (standing same numbers g names k a) in connected AndTwo x (word_of (standing same numbers g names (under (Whole x.right) k) b))
  shape_standing k (TwoShape OrTwo a b) =
      let x = word_of (standing same numbers g names k a) in connected OrTwo x (word_of (standing same numbers g names (under (NotTrue x.right) k) b))
  shape_standing k (TwoShape ImpTwo a b) =
      let x = word_of (standing same numbers g names k a) in connected ImpTwo x (word_of (standing same numbers g names (under (Whole x.right) k) b))
  shape_standing k (TwoShape h a b) = two_standing same numbers g names k h a (standing same numbers g names k a) (standing same numbers g names k b)
  shape_standing k (BetweenShape low a high) = let x = word_of (standing same numbers g names k a) in operator (X.Between low x.right high) (one x)
  shape_standing k (IfShape c a b) =
      let t = word_of (standing same numbers g names k c) in
      Chosen t (standing same numbers g names (under (Whole t.right) k) a) (standing same numbers g names (under (NotTrue t.right) k) b)
  shape_standing k (PaddShape t p n) =
      let x = word_of (standing same numbers g names k p) in
      let y = word_of (standing same numbers g names k n) in operator (X.Padd t x.right y.right) (two x y)
  shape_standing k (RootShape h t p) = let x = word_of (standing same numbers g names k p) in operator (whole_root h t x.right) (one x)
  shape_standing k (PlaceShape h t p path) =
      let x = word_of (standing same numbers g names k p) in
      operator (whole_place h t x.right (path_standing same numbers g names k path)) (tree x.tree (path_trees same numbers g names k path no_trees))
  shape_standing k (GlobalShape x path) = operator (X.Global x (path_standing same numbers g names k path)) (path_trees same numbers g names k path no_trees)
  shape_standing k (SelShape e path) =
      let x = word_of (standing same numbers g names k e) in
      operator (X.Sel x.right (path_standing same numbers g names k path)) (tree x.tree (path_trees same numbers g names k path no_trees))
  shape_standing k (UpdShape e path w) =
      let x = word_of (standing same numbers g names k e) in
      let y = word_of (standing same numbers g names k w) in
      operator (X.Upd x.right (path_standing same numbers g names k path) y.right) (tree x.tree (path_trees same numbers g names k path (one y)))

  exp_shape : (k : Surroundings) (e : Exp) → standing same numbers g names k e ≡ shape_standing k (shape_of e)
  exp_shape k (X.Between low a high) = refl
  exp_shape _ _ = refl

  pub standing_shape : (k : Surroundings) (e : Exp) (s : Shape) → s ≡ shape_of e → standing same numbers g names k e ≡ shape_standing k s
  standing_shape k e s q = exp_shape k e ∙ ap (shape_standing k) (sym q)

  -- a head with two operands, by whether it is a connective
  connective_shape : (k : Surroundings) (h : Two) (a b : Exp) (c : Bool) → connective h ≡ Some c →
      shape_standing k (TwoShape h a b) ≡
      (let x = word_of (standing same numbers g names k a) in connected h x (word_of (standing same numbers g names (under (if c then Whole x.right else NotTrue x.right) k) b)))
  connective_shape k AndTwo a b true q = refl
  connective_shape k ImpTwo a b true q = refl
  connective_shape k OrTwo a b false q = refl
  connective_shape k _ a b _ q = absurd cc

  pub connective_standing : (k : Surroundings) (e : Exp) (h : Two) (a b : Exp) (c : Bool) → TwoShape h a b ≡ shape_of e → connective h ≡ Some c →
      standing same numbers g names k e ≡
      (let x = word_of (standing same numbers g names k a) in connected h x (word_of (standing same numbers g names (under (if c then Whole x.right else NotTrue x.right) k) b)))
  connective_standing k e h a b c s q = standing_shape k e (TwoShape h a b) s ∙ connective_shape k h a b c q

  two_shape : (k : Surroundings) (h : Two) (a b : Exp) → connective h ≡ None →
      shape_standing k (TwoShape h a b) ≡ two_standing same numbers g names k h a (standing same numbers g names k a) (standing same numbers g names k b)
  two_shape k AndTwo a b q = absurd cc
  two_shape k OrTwo a b q = absurd cc
  two_shape k ImpTwo a b q = absurd cc
  two_shape _ _ _ _ _ = refl

  pub two_alone : (k : Surroundings) (e : Exp) (h : Two) (a b : Exp) → TwoShape h a b ≡ shape_of e → connective h ≡ None →
      standing same numbers g names k e ≡ two_standing same numbers g names k h a (standing same numbers g names k a) (standing same numbers g names k b)
  two_alone k e h a b s q = standing_shape k e (TwoShape h a b) s ∙ two_shape k h a b q
