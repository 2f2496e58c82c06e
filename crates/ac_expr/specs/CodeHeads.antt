-- Heads and children by shape, and what the code's children stand for.
use Rattle.std.specs.Prelude.{List, [], ◌∷◌, ◌++◌, map}
use Rattle.expression_lang.specs.Expression.{Exp}
use Rattle.expression_lang.specs.CodeExpression.{exp_of, path_of}
use Rattle.expression_lang.specs.CodeShape.{Shape, LeafShape, OneShape, TwoShape, BetweenShape, IfShape, PaddShape, RootShape, PlaceShape, GlobalShape, SelShape, UpdShape}
use Rattle.ac_expr.specs.declared.heads_alike.Children as C
use Rattle.ac_expr.specs.Heads.{hole, path_children, path_head}

-- the shape with a hole in place of each part
abbrev pub bare : Shape → Shape
bare (LeafShape l) = LeafShape l
bare (OneShape h a) = OneShape h hole
bare (TwoShape h a b) = TwoShape h hole hole
bare (BetweenShape low a high) = BetweenShape low hole high
bare (IfShape c a b) = IfShape hole hole hole
bare (PaddShape t p n) = PaddShape t hole hole
bare (RootShape h t p) = RootShape h t hole
bare (PlaceShape h t p path) = PlaceShape h t hole (path_head path)
bare (GlobalShape x path) = GlobalShape x (path_head path)
bare (SelShape e path) = SelShape hole (path_head path)
bare (UpdShape e path v) = UpdShape hole (path_head path) hole

abbrev pub shape_children : Shape → List Exp
shape_children (LeafShape l) = []
shape_children (OneShape h a) = a ∷ []
shape_children (TwoShape h a b) = a ∷ b ∷ []
shape_children (BetweenShape low a high) = a ∷ []
shape_children (IfShape c a b) = c ∷ a ∷ b ∷ []
shape_children (PaddShape t p n) = p ∷ n ∷ []
shape_children (RootShape h t p) = p ∷ []
shape_children (PlaceShape h t p path) = p ∷ path_children path
shape_children (GlobalShape x path) = path_children path
shape_children (SelShape e path) = e ∷ path_children path
shape_children (UpdShape e path v) = e ∷ (path_children path ++ (v ∷ []))

abbrev pub children_in : C.Children → List Exp
children_in C.TheVariants.None = []
children_in (C.TheVariants.One a) = exp_of a.now ∷ []
children_in (C.TheVariants.Two a b) = exp_of a.now ∷ exp_of b.now ∷ []
children_in (C.TheVariants.Three a b c) = exp_of a.now ∷ exp_of b.now ∷ exp_of c.now ∷ []
children_in (C.TheVariants.Listed es) = map exp_of es.now
children_in (C.TheVariants.Indexes path) = path_children (path_of path.now)
children_in (C.TheVariants.AndIndexes a path) = exp_of a.now ∷ path_children (path_of path.now)
children_in (C.TheVariants.IndexesAnd path a) = path_children (path_of path.now) ++ (exp_of a.now ∷ [])
children_in (C.TheVariants.Between a path b) = exp_of a.now ∷ (path_children (path_of path.now) ++ (exp_of b.now ∷ []))
