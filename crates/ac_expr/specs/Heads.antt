-- The head of an expression, and its children: those of its parts that are expressions, in text order, an index of a
-- path among them. The head is the expression with a hole in place of each child, so two heads are the same where all
-- but the children is.
use Rattle.std.specs.Prelude.{false, List, [], ◌∷◌, ◌++◌}
use Rattle.expression_lang.specs.Expression.{Exp, Var, WordLit, NumberLit, TruthLit, WordBinary, WordShift, WordUnary, WordCompare, Cast, ToNat, ToInt, ToWord, Arith, Negate, Lt, Le, Between, Eq, And, Or, Imp, Not, If, Padd, At, Load, Read, Tagged, PtrOk, Global, Sel, Upd, Path, Here, IntoField, IntoElement}

abbrev pub path_children : Path → List Exp
path_children Here = []
path_children (IntoField k path) = path_children path
path_children (IntoElement e path) = e ∷ path_children path

abbrev pub children : Exp → List Exp
children (Var x) = []
children (WordLit w) = []
children (NumberLit n) = []
children (TruthLit b) = []
children (WordBinary op a b) = a ∷ b ∷ []
children (WordShift op a n) = a ∷ n ∷ []
children (WordUnary op a) = a ∷ []
children (WordCompare op a b) = a ∷ b ∷ []
children (Cast op width a) = a ∷ []
children (ToNat a) = a ∷ []
children (ToInt a) = a ∷ []
children (ToWord width a) = a ∷ []
children (Arith op a b) = a ∷ b ∷ []
children (Negate a) = a ∷ []
children (Lt a b) = a ∷ b ∷ []
children (Le a b) = a ∷ b ∷ []
children (Between low a high) = a ∷ []
children (Eq a b) = a ∷ b ∷ []
children (And a b) = a ∷ b ∷ []
children (Or a b) = a ∷ b ∷ []
children (Imp a b) = a ∷ b ∷ []
children (Not a) = a ∷ []
children (If c a b) = c ∷ a ∷ b ∷ []
children (Padd t p n) = p ∷ n ∷ []
children (At t p path) = p ∷ path_children path
children (Load t p path) = p ∷ path_children path
children (Read t p path) = p ∷ path_children path
children (Tagged t p) = p ∷ []
children (PtrOk t p) = p ∷ []
children (Global x path) = path_children path
children (Sel e path) = e ∷ path_children path
children (Upd e path v) = e ∷ (path_children path ++ (v ∷ []))

abbrev pub hole : Exp
hole = TruthLit false

abbrev pub path_head : Path → Path
path_head Here = Here
path_head (IntoField k path) = IntoField k (path_head path)
path_head (IntoElement e path) = IntoElement hole (path_head path)

abbrev pub head : Exp → Exp
head (Var x) = Var x
head (WordLit w) = WordLit w
head (NumberLit n) = NumberLit n
head (TruthLit b) = TruthLit b
head (WordBinary op a b) = WordBinary op hole hole
head (WordShift op a n) = WordShift op hole hole
head (WordUnary op a) = WordUnary op hole
head (WordCompare op a b) = WordCompare op hole hole
head (Cast op width a) = Cast op width hole
head (ToNat a) = ToNat hole
head (ToInt a) = ToInt hole
head (ToWord width a) = ToWord width hole
head (Arith op a b) = Arith op hole hole
head (Negate a) = Negate hole
head (Lt a b) = Lt hole hole
head (Le a b) = Le hole hole
head (Between low a high) = Between low hole high
head (Eq a b) = Eq hole hole
head (And a b) = And hole hole
head (Or a b) = Or hole hole
head (Imp a b) = Imp hole hole
head (Not a) = Not hole
head (If c a b) = If hole hole hole
head (Padd t p n) = Padd t hole hole
head (At t p path) = At t hole (path_head path)
head (Load t p path) = Load t hole (path_head path)
head (Read t p path) = Read t hole (path_head path)
head (Tagged t p) = Tagged t hole
head (PtrOk t p) = PtrOk t hole
head (Global x path) = Global x (path_head path)
head (Sel e path) = Sel hole (path_head path)
head (Upd e path v) = Upd hole (path_head path) hole
