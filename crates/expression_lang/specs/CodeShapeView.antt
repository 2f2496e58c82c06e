-- What the code's shapes stand for, and its fronts, which are all but the last part.
use Rattle.std.specs.Prelude.{ℕ, ◌<◌, List, [], ◌∷◌}
use Rattle.c_values.specs.CodeTypes.{type_of}
use Rattle.c_values.specs.CodeWord.{word_op_of, shift_op_of, unary_op_of, word_test_of}
use Rattle.c_values.specs.CodeNumber.{number_op_of}
use Rattle.expression_lang.specs.declared.expression.Exp.{size-Exp}
use Rattle.expression_lang.specs.declared.paths.Path.{size-Path}
use Rattle.expression_lang.specs.declared.shape.Leaf as L
use Rattle.expression_lang.specs.declared.shape.One as O
use Rattle.expression_lang.specs.declared.shape.Two as T
use Rattle.expression_lang.specs.declared.shape.RootTest as R
use Rattle.expression_lang.specs.declared.shape.PlaceHead as P
use Rattle.expression_lang.specs.declared.shape.Shape as S
use Rattle.expression_lang.specs.declared.shape.Front as F
use Rattle.expression_lang.specs.declared.shape.PathFront as G
use Rattle.expression_lang.specs.Expression.{Exp, Between, If, Padd, Sel, Upd, Path, IntoField, IntoElement}
use Rattle.expression_lang.specs.CodeExpression.{cast_op_of, exp_of, path_of}
use Rattle.expression_lang.specs.CodeShape.{Leaf, VarLeaf, WordLeaf, NumberLeaf, TruthLeaf, One, UnaryOne, CastOne, ToNatOne, ToIntOne, ToWordOne, NegateOne, NotOne, Two, BinaryTwo, ShiftTwo, CompareTwo, ArithTwo, LtTwo, LeTwo, EqTwo, AndTwo, OrTwo, ImpTwo, RootTest, TaggedRoot, PtrOkRoot, PlaceHead, AtPlace, LoadPlace, ReadPlace, Shape, LeafShape, OneShape, TwoShape, BetweenShape, IfShape, PaddShape, RootShape, PlaceShape, GlobalShape, SelShape, UpdShape, whole_one, whole_two, whole_root, whole_place}

abbrev pub leaf_in : L.Leaf → Leaf
leaf_in (L.TheVariants.Var x) = VarLeaf x.now
leaf_in (L.TheVariants.Word w) = WordLeaf w
leaf_in (L.TheVariants.Number n) = NumberLeaf n
leaf_in (L.TheVariants.Truth b) = TruthLeaf b

abbrev pub one_in : O.One → One
one_in (O.TheVariants.WordUnary op) = UnaryOne (unary_op_of op)
one_in (O.TheVariants.Cast op width) = CastOne (cast_op_of op) width
one_in O.TheVariants.ToNat = ToNatOne
one_in O.TheVariants.ToInt = ToIntOne
one_in (O.TheVariants.ToWord width) = ToWordOne width
one_in O.TheVariants.Negate = NegateOne
one_in O.TheVariants.Not = NotOne

abbrev pub two_in : T.Two → Two
two_in (T.TheVariants.WordBinary op) = BinaryTwo (word_op_of op)
two_in (T.TheVariants.WordShift op) = ShiftTwo (shift_op_of op)
two_in (T.TheVariants.WordCompare op) = CompareTwo (word_test_of op)
two_in (T.TheVariants.Arith op) = ArithTwo (number_op_of op)
two_in T.TheVariants.Lt = LtTwo
two_in T.TheVariants.Le = LeTwo
two_in T.TheVariants.Eq = EqTwo
two_in T.TheVariants.And = AndTwo
two_in T.TheVariants.Or = OrTwo
two_in T.TheVariants.Imp = ImpTwo

abbrev pub root_in : R.RootTest → RootTest
root_in R.TheVariants.Tagged = TaggedRoot
root_in R.TheVariants.PtrOk = PtrOkRoot

abbrev pub place_in : P.PlaceHead → PlaceHead
place_in P.TheVariants.At = AtPlace
place_in P.TheVariants.Load = LoadPlace
place_in P.TheVariants.Read = ReadPlace

abbrev pub shape_in : S.Shape → Shape
shape_in (S.TheVariants.Leaf l) = LeafShape (leaf_in l)
shape_in (S.TheVariants.One h a) = OneShape (one_in h) (exp_of a.now)
shape_in (S.TheVariants.Two h a b) = TwoShape (two_in h) (exp_of a.now) (exp_of b.now)
shape_in (S.TheVariants.Between low a high) = BetweenShape low (exp_of a.now) high
shape_in (S.TheVariants.If c a b) = IfShape (exp_of c.now) (exp_of a.now) (exp_of b.now)
shape_in (S.TheVariants.Padd t p n) = PaddShape (type_of t.now) (exp_of p.now) (exp_of n.now)
shape_in (S.TheVariants.Root h t p) = RootShape (root_in h) (type_of t.now) (exp_of p.now)
shape_in (S.TheVariants.Place h t p path) = PlaceShape (place_in h) (type_of t.now) (exp_of p.now) (path_of path.now)
shape_in (S.TheVariants.Global x path) = GlobalShape x.now (path_of path.now)
shape_in (S.TheVariants.Sel e path) = SelShape (exp_of e.now) (path_of path.now)
shape_in (S.TheVariants.Upd e path v) = UpdShape (exp_of e.now) (path_of path.now) (exp_of v.now)

-- the parts are smaller than that
abbrev pub AreSmaller : S.Shape → ℕ → Type 0
AreSmaller (S.TheVariants.Leaf l) size = Unit {0}
AreSmaller (S.TheVariants.One h a) size = size-Exp a.now < size
AreSmaller (S.TheVariants.Two h a b) size = (size-Exp a.now < size) × (size-Exp b.now < size)
AreSmaller (S.TheVariants.Between low a high) size = size-Exp a.now < size
AreSmaller (S.TheVariants.If c a b) size = (size-Exp c.now < size) × (size-Exp a.now < size) × (size-Exp b.now < size)
AreSmaller (S.TheVariants.Padd t p n) size = (size-Exp p.now < size) × (size-Exp n.now < size)
AreSmaller (S.TheVariants.Root h t p) size = size-Exp p.now < size
AreSmaller (S.TheVariants.Place h t p path) size = (size-Exp p.now < size) × (size-Path path.now < size)
AreSmaller (S.TheVariants.Global x path) size = size-Path path.now < size
AreSmaller (S.TheVariants.Sel e path) size = (size-Exp e.now < size) × (size-Path path.now < size)
AreSmaller (S.TheVariants.Upd e path v) size = (size-Exp e.now < size) × (size-Path path.now < size) × (size-Exp v.now < size)

-- an expression from all but its last part and that
abbrev pub with_front : F.Front → Exp → Exp
with_front (F.TheVariants.One h) last = whole_one (one_in h) last
with_front (F.TheVariants.Two h a) last = whole_two (two_in h) (exp_of a.value) last
with_front (F.TheVariants.Between low high) last = Between low last high
with_front (F.TheVariants.If c a) last = If (exp_of c.value) (exp_of a.value) last
with_front (F.TheVariants.Padd t p) last = Padd (type_of t.now) (exp_of p.value) last
with_front (F.TheVariants.Root h t) last = whole_root (root_in h) (type_of t.now) last
with_front (F.TheVariants.Place h t path) last = whole_place (place_in h) (type_of t.now) last (path_of path)
with_front (F.TheVariants.Sel path) last = Sel last (path_of path)
with_front (F.TheVariants.Upd e path) last = Upd (exp_of e.value) (path_of path) last

-- the first front first
abbrev pub with_fronts : List F.Front → Exp → Exp
with_fronts [] last = last
with_fronts (x ∷ xs) last = with_front x (with_fronts xs last)

abbrev pub with_step : G.PathFront → Path → Path
with_step (G.TheVariants.Field k) rest = IntoField k rest
with_step (G.TheVariants.Index e) rest = IntoElement (exp_of e.value) rest

abbrev pub with_steps : List G.PathFront → Path → Path
with_steps [] rest = rest
with_steps (x ∷ xs) rest = with_step x (with_steps xs rest)
