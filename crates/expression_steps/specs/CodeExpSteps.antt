-- The first step in an expression, at its shape.
use Rattle.std.specs.Prelude.{List, ◌∷◌, Option, None}
use Rattle.expression_lang.specs.Expression.{Exp, Between, If, Padd, Global}
use Rattle.expression_lang.specs.CodeShape.{Two, AndTwo, OrTwo, ImpTwo, Shape, LeafShape, OneShape, TwoShape, BetweenShape, IfShape, PaddShape, RootShape, PlaceShape, GlobalShape, SelShape, UpdShape, whole_one, whole_two, whole_root, whole_place}
use Rattle.ac_expr.specs.Fact.{Fact, Whole, NotTrue}
use Rattle.expression_steps.specs.Rewritten.{Choice, in_one, in_two, in_three, first_step, path_step}

-- what is known at the second of two parts
abbrev pub right_facts : Two → Exp → List Fact → List Fact
right_facts AndTwo a fs = Whole a ∷ fs
right_facts ImpTwo a fs = Whole a ∷ fs
right_facts OrTwo a fs = NotTrue a ∷ fs
right_facts head a fs = fs

-- the first step in a part
abbrev pub shape_step : Choice → List Fact → Shape → Option Exp
shape_step f fs (LeafShape l) = None
shape_step f fs (OneShape h a) = in_one (λ x. whole_one h x) (first_step f fs a)
shape_step f fs (TwoShape h a b) = in_two (λ x y. whole_two h x y) a b (first_step f fs a) (first_step f (right_facts h a fs) b)
shape_step f fs (BetweenShape low a high) = in_one (λ x. Between low x high) (first_step f fs a)
shape_step f fs (IfShape c a b) =
    in_three (λ x y z. If x y z) c a b (first_step f fs c) (first_step f (Whole c ∷ fs) a) (first_step f (NotTrue c ∷ fs) b)
shape_step f fs (PaddShape t p n) = in_two (λ x y. Padd t x y) p n (first_step f fs p) (first_step f fs n)
shape_step f fs (RootShape h t p) = in_one (λ x. whole_root h t x) (first_step f fs p)
shape_step f fs (PlaceShape h t p path) = in_two (λ x y. whole_place h t x y) p path (first_step f fs p) (path_step f fs path)
shape_step f fs (GlobalShape x path) = in_one (λ y. Global x y) (path_step f fs path)
shape_step f fs (SelShape e path) = None
shape_step f fs (UpdShape e path v) = None
