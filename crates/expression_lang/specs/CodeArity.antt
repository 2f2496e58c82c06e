-- Expressions by what they have as parts, and the parts.
use Rattle.std.specs.Prelude.{◌≡◌, ◌⊎◌}
use Rattle.expression_lang.specs.declared.arity.Arity.{Arity}
use Rattle.expression_lang.specs.declared.arity.Arity.TheVariants.{Leaf, Unary, Binary, Connective, Choice, Place, Part, Update}
use Rattle.expression_lang.specs.Expression.{Exp, Var, WordLit, NumberLit, TruthLit, WordBinary, WordShift, WordUnary, WordCompare, Cast, ToNat, ToInt, ToWord, Arith, Negate, Lt, Le, Between, Eq, And, Or, Imp, Not, If, Padd, At, Load, Read, Tagged, PtrOk, Global, Sel, Upd, Path, Here}

abbrev pub arity_of : Exp → Arity
arity_of (Var x) = Leaf
arity_of (WordLit w) = Leaf
arity_of (NumberLit n) = Leaf
arity_of (TruthLit b) = Leaf
arity_of (WordBinary op a b) = Binary
arity_of (WordShift op a n) = Binary
arity_of (WordUnary op a) = Unary
arity_of (WordCompare op a b) = Binary
arity_of (Cast op width a) = Unary
arity_of (ToNat a) = Unary
arity_of (ToInt a) = Unary
arity_of (ToWord width a) = Unary
arity_of (Arith op a b) = Binary
arity_of (Negate a) = Unary
arity_of (Lt a b) = Binary
arity_of (Le a b) = Binary
arity_of (Between low a high) = Unary
arity_of (Eq a b) = Binary
arity_of (And a b) = Connective
arity_of (Or a b) = Connective
arity_of (Imp a b) = Connective
arity_of (Not a) = Unary
arity_of (If c a b) = Choice
arity_of (Padd t p n) = Binary
arity_of (At t p path) = Place
arity_of (Load t p path) = Place
arity_of (Read t p path) = Place
arity_of (Tagged t p) = Unary
arity_of (PtrOk t p) = Unary
arity_of (Global x path) = Part
arity_of (Sel e path) = Place
arity_of (Upd e path v) = Update

-- the first part; one without parts is taken itself
abbrev pub first_part : Exp → Exp
first_part (Var x) = Var x
first_part (WordLit w) = WordLit w
first_part (NumberLit n) = NumberLit n
first_part (TruthLit b) = TruthLit b
first_part (WordBinary op a b) = a
first_part (WordShift op a n) = a
first_part (WordUnary op a) = a
first_part (WordCompare op a b) = a
first_part (Cast op width a) = a
first_part (ToNat a) = a
first_part (ToInt a) = a
first_part (ToWord width a) = a
first_part (Arith op a b) = a
first_part (Negate a) = a
first_part (Lt a b) = a
first_part (Le a b) = a
first_part (Between low a high) = a
first_part (Eq a b) = a
first_part (And a b) = a
first_part (Or a b) = a
first_part (Imp a b) = a
first_part (Not a) = a
first_part (If c a b) = c
first_part (Padd t p n) = p
first_part (At t p path) = p
first_part (Load t p path) = p
first_part (Read t p path) = p
first_part (Tagged t p) = p
first_part (PtrOk t p) = p
first_part (Global x path) = Global x path
first_part (Sel e path) = e
first_part (Upd e path v) = e

-- the second of two operands, and what an update puts in
abbrev pub second_part : Exp → Exp
second_part (WordBinary op a b) = b
second_part (WordShift op a n) = n
second_part (WordCompare op a b) = b
second_part (Arith op a b) = b
second_part (Lt a b) = b
second_part (Le a b) = b
second_part (Eq a b) = b
second_part (And a b) = b
second_part (Or a b) = b
second_part (Imp a b) = b
second_part (Padd t p n) = n
second_part (Upd e path v) = v
second_part e = e

abbrev pub path_part : Exp → Path
path_part (At t p path) = path
path_part (Load t p path) = path
path_part (Read t p path) = path
path_part (Global x path) = path
path_part (Sel e path) = path
path_part (Upd e path v) = path
path_part e = Here

abbrev pub HasFirst : Exp → Type 0
HasFirst e =
    (arity_of e ≡ Unary) ⊎ (arity_of e ≡ Binary) ⊎ (arity_of e ≡ Connective) ⊎ (arity_of e ≡ Place) ⊎ (arity_of e ≡ Update)

abbrev pub HasSecond : Exp → Type 0
HasSecond e = (arity_of e ≡ Binary) ⊎ (arity_of e ≡ Connective) ⊎ (arity_of e ≡ Update)

abbrev pub HasPath : Exp → Type 0
HasPath e = (arity_of e ≡ Place) ⊎ (arity_of e ≡ Part) ⊎ (arity_of e ≡ Update)
