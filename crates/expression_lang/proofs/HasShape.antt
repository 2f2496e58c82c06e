-- Whether some part passes a test, at an expression's shape.
use Rattle.std.proofs.Common.{◌≡◌, Bool, true, false, ◌||◌, refl, sym, ap, ◌∙◌}
use Rattle.expression_lang.specs.Expression.{Exp, Var, WordLit, NumberLit, TruthLit, WordBinary, WordShift, WordCompare, Arith, Lt, Le, Between, Eq, And, Or, Imp, If, Padd, At, Load, Read, Sel, Upd}
use Rattle.expression_lang.specs.Form.{has, path_has}
use Rattle.expression_lang.specs.CodeShape.{Shape, LeafShape, OneShape, TwoShape, BetweenShape, IfShape, PaddShape, RootShape, PlaceShape, GlobalShape, SelShape, UpdShape, shape_of}

or_none : (x : Bool) → x ≡ x || false
or_none true = refl
or_none false = refl

or_three : (x a b : Bool) → (x || a) || b ≡ x || (a || b)
or_three true a b = refl
or_three false a b = refl

or_turned : (x a b : Bool) → (x || a) || b ≡ x || (b || a)
or_turned false true true = refl
or_turned false false true = refl
or_turned _ _ _ = refl

or_four : (x a b c : Bool) → ((x || a) || b) || c ≡ x || (a || (b || c))
or_four false true b c = refl
or_four _ _ _ _ = refl

-- the last part after all others
abbrev pub parts_have : (Exp → Bool) → Shape → Bool
parts_have test (LeafShape l) = false
parts_have test (OneShape h a) = has test a
parts_have test (TwoShape h a b) = has test a || has test b
parts_have test (BetweenShape low a high) = has test a
parts_have test (IfShape c a b) = has test c || (has test a || has test b)
parts_have test (PaddShape t p n) = has test p || has test n
parts_have test (RootShape h t p) = has test p
parts_have test (PlaceShape h t p path) = path_has test path || has test p
parts_have test (GlobalShape x path) = path_has test path
parts_have test (SelShape e path) = path_has test path || has test e
parts_have test (UpdShape e path v) = has test e || (path_has test path || has test v)

has_at : (test : Exp → Bool) (e : Exp) → has test e ≡ test e || parts_have test (shape_of e)
has_at test (Var x) = or_none (test (Var x))
has_at test (WordLit w) = or_none (test (WordLit w))
has_at test (NumberLit n) = or_none (test (NumberLit n))
has_at test (TruthLit b) = or_none (test (TruthLit b))
has_at test (WordBinary op a b) = or_three (test (WordBinary op a b)) (has test a) (has test b)
has_at test (WordShift op a n) = or_three (test (WordShift op a n)) (has test a) (has test n)
has_at test (WordCompare op a b) = or_three (test (WordCompare op a b)) (has test a) (has test b)
has_at test (Arith op a b) = or_three (test (Arith op a b)) (has test a) (has test b)
has_at test (Lt a b) = or_three (test (Lt a b)) (has test a) (has test b)
has_at test (Le a b) = or_three (test (Le a b)) (has test a) (has test b)
has_at test (Between low a high) = refl
has_at test (Eq a b) = or_three (test (Eq a b)) (has test a) (has test b)
has_at test (And a b) = or_three (test (And a b)) (has test a) (has test b)
has_at test (Or a b) = or_three (test (Or a b)) (has test a) (has test b)
has_at test (Imp a b) = or_three (test (Imp a b)) (has test a) (has test b)
has_at test (If c a b) = or_four (test (If c a b)) (has test c) (has test a) (has test b)
has_at test (Padd t p n) = or_three (test (Padd t p n)) (has test p) (has test n)
has_at test (At t p path) = or_turned (test (At t p path)) (has test p) (path_has test path)
has_at test (Load t p path) = or_turned (test (Load t p path)) (has test p) (path_has test path)
has_at test (Read t p path) = or_turned (test (Read t p path)) (has test p) (path_has test path)
has_at test (Sel e path) = or_turned (test (Sel e path)) (has test e) (path_has test path)
has_at test (Upd e path v) = or_four (test (Upd e path v)) (has test e) (path_has test path) (has test v)
has_at _ _ = refl

pub has_shape : (test : Exp → Bool) (e : Exp) (s : Shape) → s ≡ shape_of e → has test e ≡ test e || parts_have test s
has_shape test e s h = has_at test e ∙ ap (λ x. test e || parts_have test x) (sym h)

-- one that passes is among its parts
pub has_itself : (test : Exp → Bool) (e : Exp) → test e ≡ true → has test e ≡ true
has_itself test e h = has_at test e ∙ ap (λ x. x || parts_have test (shape_of e)) h
