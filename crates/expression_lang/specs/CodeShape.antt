-- The shape of an expression: its head and its parts, as the code's walks look at it.
use Rattle.std.specs.Prelude.{ℕ, ℤ, Bool}
use Rattle.c_values.specs.Name.{Name}
use Rattle.c_values.specs.Types.{CType}
use Rattle.c_values.specs.Word.{Word, WordOp, ShiftOp, UnaryOp, WordTest}
use Rattle.c_values.specs.Number.{NumberOp}
use Rattle.expression_lang.specs.Expression.{CastOp, Exp, Var, WordLit, NumberLit, TruthLit, WordBinary, WordShift, WordUnary, WordCompare, Cast, ToNat, ToInt, ToWord, Arith, Negate, Lt, Le, Between, Eq, And, Or, Imp, Not, If, Padd, At, Load, Read, Tagged, PtrOk, Global, Sel, Upd, Path}

pub data Leaf : Type 0 where
  VarLeaf : Name → Leaf
  WordLeaf : Word → Leaf
  NumberLeaf : ℤ → Leaf
  TruthLeaf : Bool → Leaf

pub data One : Type 0 where
  UnaryOne : UnaryOp → One
  CastOne : CastOp → ℕ → One
  ToNatOne : One
  ToIntOne : One
  ToWordOne : ℕ → One
  NegateOne : One
  NotOne : One

pub data Two : Type 0 where
  BinaryTwo : WordOp → Two
  ShiftTwo : ShiftOp → Two
  CompareTwo : WordTest → Two
  ArithTwo : NumberOp → Two
  LtTwo : Two
  LeTwo : Two
  EqTwo : Two
  AndTwo : Two
  OrTwo : Two
  ImpTwo : Two

pub data RootTest : Type 0 where
  TaggedRoot : RootTest
  PtrOkRoot : RootTest

pub data PlaceHead : Type 0 where
  AtPlace : PlaceHead
  LoadPlace : PlaceHead
  ReadPlace : PlaceHead

pub data Shape : Type 0 where
  LeafShape : Leaf → Shape
  OneShape : One → Exp → Shape
  TwoShape : Two → Exp → Exp → Shape
  BetweenShape : ℤ → Exp → ℤ → Shape
  IfShape : Exp → Exp → Exp → Shape
  PaddShape : CType → Exp → Exp → Shape
  RootShape : RootTest → CType → Exp → Shape
  PlaceShape : PlaceHead → CType → Exp → Path → Shape
  GlobalShape : Name → Path → Shape
  SelShape : Exp → Path → Shape
  UpdShape : Exp → Path → Exp → Shape

abbrev pub shape_of : Exp → Shape
shape_of (Var x) = LeafShape (VarLeaf x)
shape_of (WordLit w) = LeafShape (WordLeaf w)
shape_of (NumberLit n) = LeafShape (NumberLeaf n)
shape_of (TruthLit b) = LeafShape (TruthLeaf b)
shape_of (WordBinary op a b) = TwoShape (BinaryTwo op) a b
shape_of (WordShift op a n) = TwoShape (ShiftTwo op) a n
shape_of (WordUnary op a) = OneShape (UnaryOne op) a
shape_of (WordCompare op a b) = TwoShape (CompareTwo op) a b
shape_of (Cast op width a) = OneShape (CastOne op width) a
shape_of (ToNat a) = OneShape ToNatOne a
shape_of (ToInt a) = OneShape ToIntOne a
shape_of (ToWord width a) = OneShape (ToWordOne width) a
shape_of (Arith op a b) = TwoShape (ArithTwo op) a b
shape_of (Negate a) = OneShape NegateOne a
shape_of (Lt a b) = TwoShape LtTwo a b
shape_of (Le a b) = TwoShape LeTwo a b
shape_of (Between low a high) = BetweenShape low a high
shape_of (Eq a b) = TwoShape EqTwo a b
shape_of (And a b) = TwoShape AndTwo a b
shape_of (Or a b) = TwoShape OrTwo a b
shape_of (Imp a b) = TwoShape ImpTwo a b
shape_of (Not a) = OneShape NotOne a
shape_of (If c a b) = IfShape c a b
shape_of (Padd t p n) = PaddShape t p n
shape_of (At t p path) = PlaceShape AtPlace t p path
shape_of (Load t p path) = PlaceShape LoadPlace t p path
shape_of (Read t p path) = PlaceShape ReadPlace t p path
shape_of (Tagged t p) = RootShape TaggedRoot t p
shape_of (PtrOk t p) = RootShape PtrOkRoot t p
shape_of (Global x path) = GlobalShape x path
shape_of (Sel e path) = SelShape e path
shape_of (Upd e path v) = UpdShape e path v

abbrev pub whole_leaf : Leaf → Exp
whole_leaf (VarLeaf x) = Var x
whole_leaf (WordLeaf w) = WordLit w
whole_leaf (NumberLeaf n) = NumberLit n
whole_leaf (TruthLeaf b) = TruthLit b

abbrev pub whole_one : One → Exp → Exp
whole_one (UnaryOne op) a = WordUnary op a
whole_one (CastOne op width) a = Cast op width a
whole_one ToNatOne a = ToNat a
whole_one ToIntOne a = ToInt a
whole_one (ToWordOne width) a = ToWord width a
whole_one NegateOne a = Negate a
whole_one NotOne a = Not a

abbrev pub whole_two : Two → Exp → Exp → Exp
whole_two (BinaryTwo op) a b = WordBinary op a b
whole_two (ShiftTwo op) a b = WordShift op a b
whole_two (CompareTwo op) a b = WordCompare op a b
whole_two (ArithTwo op) a b = Arith op a b
whole_two LtTwo a b = Lt a b
whole_two LeTwo a b = Le a b
whole_two EqTwo a b = Eq a b
whole_two AndTwo a b = And a b
whole_two OrTwo a b = Or a b
whole_two ImpTwo a b = Imp a b

abbrev pub whole_root : RootTest → CType → Exp → Exp
whole_root TaggedRoot t p = Tagged t p
whole_root PtrOkRoot t p = PtrOk t p

abbrev pub whole_place : PlaceHead → CType → Exp → Path → Exp
whole_place AtPlace t p path = At t p path
whole_place LoadPlace t p path = Load t p path
whole_place ReadPlace t p path = Read t p path

abbrev pub whole : Shape → Exp
whole (LeafShape l) = whole_leaf l
whole (OneShape h a) = whole_one h a
whole (TwoShape h a b) = whole_two h a b
whole (BetweenShape low a high) = Between low a high
whole (IfShape c a b) = If c a b
whole (PaddShape t p n) = Padd t p n
whole (RootShape h t p) = whole_root h t p
whole (PlaceShape h t p path) = whole_place h t p path
whole (GlobalShape x path) = Global x path
whole (SelShape e path) = Sel e path
whole (UpdShape e path v) = Upd e path v
