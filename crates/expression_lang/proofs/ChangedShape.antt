-- What a change makes of an expression, at its shape.
use Rattle.std.proofs.Common.{◌≡◌, Option, Some, None, unwrap_or, sym, ap, ◌∙◌}
use Rattle.expression_lang.specs.Expression.{Exp, Var, WordLit, NumberLit, TruthLit, WordBinary, WordShift, WordUnary, WordCompare, Cast, ToNat, ToInt, ToWord, Arith, Negate, Lt, Le, Between, Eq, And, Or, Imp, Not, If, Padd, At, Load, Read, Tagged, PtrOk, Global, Sel, Upd}
use Rattle.expression_lang.specs.Changed.{changed, changed_path}
use Rattle.expression_lang.specs.CodeShape.{Shape, LeafShape, OneShape, TwoShape, BetweenShape, IfShape, PaddShape, RootShape, PlaceShape, GlobalShape, SelShape, UpdShape, shape_of, whole}

-- a shape with the change made in its parts
abbrev pub shape_changed : (Exp → Option Exp) → Shape → Shape
shape_changed f (LeafShape l) = LeafShape l
shape_changed f (OneShape h a) = OneShape h (changed f a)
shape_changed f (TwoShape h a b) = TwoShape h (changed f a) (changed f b)
shape_changed f (BetweenShape low a high) = BetweenShape low (changed f a) high
shape_changed f (IfShape c a b) = IfShape (changed f c) (changed f a) (changed f b)
shape_changed f (PaddShape t p n) = PaddShape t (changed f p) (changed f n)
shape_changed f (RootShape h t p) = RootShape h t (changed f p)
shape_changed f (PlaceShape h t p path) = PlaceShape h t (changed f p) (changed_path f path)
shape_changed f (GlobalShape x path) = GlobalShape x (changed_path f path)
shape_changed f (SelShape e path) = SelShape (changed f e) (changed_path f path)
shape_changed f (UpdShape e path v) = UpdShape (changed f e) (changed_path f path) (changed f v)

-- where there is an expression instead, it is what becomes of one
pub changed_itself : (f : Exp → Option Exp) (e new : Exp) → f e ≡ Some new → new ≡ changed f e
changed_itself f (Var x) new h = sym (ap (λ o. unwrap_or o (Var x)) h)
changed_itself f (WordLit w) new h = sym (ap (λ o. unwrap_or o (WordLit w)) h)
changed_itself f (NumberLit n) new h = sym (ap (λ o. unwrap_or o (NumberLit n)) h)
changed_itself f (TruthLit b) new h = sym (ap (λ o. unwrap_or o (TruthLit b)) h)
changed_itself f (WordBinary op a b) new h = sym (ap (λ o. unwrap_or o (WordBinary op (changed f a) (changed f b))) h)
changed_itself f (WordShift op a n) new h = sym (ap (λ o. unwrap_or o (WordShift op (changed f a) (changed f n))) h)
changed_itself f (WordUnary op a) new h = sym (ap (λ o. unwrap_or o (WordUnary op (changed f a))) h)
changed_itself f (WordCompare op a b) new h = sym (ap (λ o. unwrap_or o (WordCompare op (changed f a) (changed f b))) h)
changed_itself f (Cast op width a) new h = sym (ap (λ o. unwrap_or o (Cast op width (changed f a))) h)
changed_itself f (ToNat a) new h = sym (ap (λ o. unwrap_or o (ToNat (changed f a))) h)
changed_itself f (ToInt a) new h = sym (ap (λ o. unwrap_or o (ToInt (changed f a))) h)
changed_itself f (ToWord width a) new h = sym (ap (λ o. unwrap_or o (ToWord width (changed f a))) h)
changed_itself f (Arith op a b) new h = sym (ap (λ o. unwrap_or o (Arith op (changed f a) (changed f b))) h)
changed_itself f (Negate a) new h = sym (ap (λ o. unwrap_or o (Negate (changed f a))) h)
changed_itself f (Lt a b) new h = sym (ap (λ o. unwrap_or o (Lt (changed f a) (changed f b))) h)
changed_itself f (Le a b) new h = sym (ap (λ o. unwrap_or o (Le (changed f a) (changed f b))) h)
changed_itself f (Between low a high) new h = sym (ap (λ o. unwrap_or o (Between low (changed f a) high)) h)
changed_itself f (Eq a b) new h = sym (ap (λ o. unwrap_or o (Eq (changed f a) (changed f b))) h)
changed_itself f (And a b) new h = sym (ap (λ o. unwrap_or o (And (changed f a) (changed f b))) h)
changed_itself f (Or a b) new h = sym (ap (λ o. unwrap_or o (Or (changed f a) (changed f b))) h)
changed_itself f (Imp a b) new h = sym (ap (λ o. unwrap_or o (Imp (changed f a) (changed f b))) h)
changed_itself f (Not a) new h = sym (ap (λ o. unwrap_or o (Not (changed f a))) h)
changed_itself f (If c a b) new h = sym (ap (λ o. unwrap_or o (If (changed f c) (changed f a) (changed f b))) h)
changed_itself f (Padd t p n) new h = sym (ap (λ o. unwrap_or o (Padd t (changed f p) (changed f n))) h)
changed_itself f (At t p path) new h = sym (ap (λ o. unwrap_or o (At t (changed f p) (changed_path f path))) h)
changed_itself f (Load t p path) new h = sym (ap (λ o. unwrap_or o (Load t (changed f p) (changed_path f path))) h)
changed_itself f (Read t p path) new h = sym (ap (λ o. unwrap_or o (Read t (changed f p) (changed_path f path))) h)
changed_itself f (Tagged t p) new h = sym (ap (λ o. unwrap_or o (Tagged t (changed f p))) h)
changed_itself f (PtrOk t p) new h = sym (ap (λ o. unwrap_or o (PtrOk t (changed f p))) h)
changed_itself f (Global x path) new h = sym (ap (λ o. unwrap_or o (Global x (changed_path f path))) h)
changed_itself f (Sel e path) new h = sym (ap (λ o. unwrap_or o (Sel (changed f e) (changed_path f path))) h)
changed_itself f (Upd e path v) new h = sym (ap (λ o. unwrap_or o (Upd (changed f e) (changed_path f path) (changed f v))) h)

parts_changed : (f : Exp → Option Exp) (e : Exp) → f e ≡ None → changed f e ≡ whole (shape_changed f (shape_of e))
parts_changed f (Var x) h = ap (λ o. unwrap_or o (Var x)) h
parts_changed f (WordLit w) h = ap (λ o. unwrap_or o (WordLit w)) h
parts_changed f (NumberLit n) h = ap (λ o. unwrap_or o (NumberLit n)) h
parts_changed f (TruthLit b) h = ap (λ o. unwrap_or o (TruthLit b)) h
parts_changed f (WordBinary op a b) h = ap (λ o. unwrap_or o (WordBinary op (changed f a) (changed f b))) h
parts_changed f (WordShift op a n) h = ap (λ o. unwrap_or o (WordShift op (changed f a) (changed f n))) h
parts_changed f (WordUnary op a) h = ap (λ o. unwrap_or o (WordUnary op (changed f a))) h
parts_changed f (WordCompare op a b) h = ap (λ o. unwrap_or o (WordCompare op (changed f a) (changed f b))) h
parts_changed f (Cast op width a) h = ap (λ o. unwrap_or o (Cast op width (changed f a))) h
parts_changed f (ToNat a) h = ap (λ o. unwrap_or o (ToNat (changed f a))) h
parts_changed f (ToInt a) h = ap (λ o. unwrap_or o (ToInt (changed f a))) h
parts_changed f (ToWord width a) h = ap (λ o. unwrap_or o (ToWord width (changed f a))) h
parts_changed f (Arith op a b) h = ap (λ o. unwrap_or o (Arith op (changed f a) (changed f b))) h
parts_changed f (Negate a) h = ap (λ o. unwrap_or o (Negate (changed f a))) h
parts_changed f (Lt a b) h = ap (λ o. unwrap_or o (Lt (changed f a) (changed f b))) h
parts_changed f (Le a b) h = ap (λ o. unwrap_or o (Le (changed f a) (changed f b))) h
parts_changed f (Between low a high) h = ap (λ o. unwrap_or o (Between low (changed f a) high)) h
parts_changed f (Eq a b) h = ap (λ o. unwrap_or o (Eq (changed f a) (changed f b))) h
parts_changed f (And a b) h = ap (λ o. unwrap_or o (And (changed f a) (changed f b))) h
parts_changed f (Or a b) h = ap (λ o. unwrap_or o (Or (changed f a) (changed f b))) h
parts_changed f (Imp a b) h = ap (λ o. unwrap_or o (Imp (changed f a) (changed f b))) h
parts_changed f (Not a) h = ap (λ o. unwrap_or o (Not (changed f a))) h
parts_changed f (If c a b) h = ap (λ o. unwrap_or o (If (changed f c) (changed f a) (changed f b))) h
parts_changed f (Padd t p n) h = ap (λ o. unwrap_or o (Padd t (changed f p) (changed f n))) h
parts_changed f (At t p path) h = ap (λ o. unwrap_or o (At t (changed f p) (changed_path f path))) h
parts_changed f (Load t p path) h = ap (λ o. unwrap_or o (Load t (changed f p) (changed_path f path))) h
parts_changed f (Read t p path) h = ap (λ o. unwrap_or o (Read t (changed f p) (changed_path f path))) h
parts_changed f (Tagged t p) h = ap (λ o. unwrap_or o (Tagged t (changed f p))) h
parts_changed f (PtrOk t p) h = ap (λ o. unwrap_or o (PtrOk t (changed f p))) h
parts_changed f (Global x path) h = ap (λ o. unwrap_or o (Global x (changed_path f path))) h
parts_changed f (Sel e path) h = ap (λ o. unwrap_or o (Sel (changed f e) (changed_path f path))) h
parts_changed f (Upd e path v) h = ap (λ o. unwrap_or o (Upd (changed f e) (changed_path f path) (changed f v))) h

-- where there is none, it is changed in its parts
pub changed_shape : (f : Exp → Option Exp) (e : Exp) (s : Shape) → f e ≡ None → s ≡ shape_of e → changed f e ≡ whole (shape_changed f s)
changed_shape f e s h same = parts_changed f e h ∙ ap (λ x. whole (shape_changed f x)) (sym same)
