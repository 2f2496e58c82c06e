-- Arrays of one element around types, and values in as many.
use Rattle.std.proofs.Common.{◌≡◌, ℕ, suc, ◌≤◌, Bool, true, false, cond, eqb, refl, sym, ap, ◌∙◌, arith, le_refl, eqb-true}
use Rattle.c_values.specs.Types.{CType, Integer, Void, Ptr, Struct, Array}
use Rattle.c_values.specs.Layout.{Layout, Shape, Row, shape_of}
use Rattle.c_values.specs.Value.{Value}
use Rattle.c_values.specs.CodeLone.{lone, inside, around}
use Rattle.c_values.proofs.Height.{height}

around_lone : (t : CType) (v : Value) → around t (lone v) ≡ lone (around t v)
around_lone (Array t n) v = by_cases (eqb n 1) (around_lone t (lone v))
  where
    by_cases : (b : Bool) → around t (lone (lone v)) ≡ lone (around t (lone v)) → cond b (around t (lone (lone v))) (lone v) ≡ lone (cond b (around t (lone v)) v)
    by_cases true below = below
    by_cases false below = refl
around_lone _ _ = refl

-- how many outermost arrays of one element there are
abbrev pub layers : CType → ℕ
layers (Array t n) = cond (eqb n 1) (suc (layers t)) 0
layers (Integer i) = 0
layers Void = 0
layers (Ptr t) = 0
layers (Struct x) = 0

other_inside : (t : CType) (n : ℕ) (b : Bool) → eqb n 1 ≡ b → ((u : CType) → Array t n ≡ Array u 1 → ⊥) → cond b (inside t) (Array t n) ≡ Array t n
other_inside t n true e other = absurd (other t (ap (λ k. Array t k) (eqb-true n 1 e)))
other_inside t n false e other = refl

pub inside_other : (t : CType) → ((u : CType) → t ≡ Array u 1 → ⊥) → inside t ≡ t
inside_other (Array t n) other = other_inside t n (eqb n 1) refl other
inside_other _ _ = refl

other_around : (t : CType) (n : ℕ) (v : Value) (b : Bool) → eqb n 1 ≡ b → ((u : CType) → Array t n ≡ Array u 1 → ⊥) → cond b (around t (lone v)) v ≡ v
other_around t n v true e other = absurd (other t (ap (λ k. Array t k) (eqb-true n 1 e)))
other_around t n v false e other = refl

pub around_other : (t : CType) (v : Value) → ((u : CType) → t ≡ Array u 1 → ⊥) → around t v ≡ v
around_other (Array t n) v other = other_around t n v (eqb n 1) refl other
around_other _ _ _ = refl

-- what is of a whole array of one element as the lone part of what is of its element, is so of all outermost ones
pub whole_around : (f : Shape → Value) → ((e : Shape) → f (Row e 1) ≡ lone (f e)) → (l : Layout) (t : CType) → around t (f (shape_of l (inside t))) ≡ f (shape_of l t)
whole_around f one l (Array t n) = by_cases (eqb n 1) refl (whole_around f one l t)
  where
    by_cases : (b : Bool) → eqb n 1 ≡ b → around t (f (shape_of l (inside t))) ≡ f (shape_of l t) →
        cond b (around t (lone (f (shape_of l (cond b (inside t) (Array t n)))))) (f (shape_of l (cond b (inside t) (Array t n)))) ≡ f (shape_of l (Array t n))
    by_cases true e below =
        around_lone t (f (shape_of l (inside t))) ∙ ap lone below ∙ sym (one (shape_of l t)) ∙ ap (λ k. f (shape_of l (Array t k))) (sym (eqb-true n 1 e))
    by_cases false e below = refl
whole_around _ _ _ _ = refl

pub inside_lower : (l : Layout) (t : CType) → height (shape_of l (inside t)) ≤ height (shape_of l t)
inside_lower l (Array t n) = by_cases (eqb n 1) (inside_lower l t)
  where
    by_cases : (b : Bool) → height (shape_of l (inside t)) ≤ height (shape_of l t) → height (shape_of l (cond b (inside t) (Array t n))) ≤ height (shape_of l (Array t n))
    by_cases true below = omega (arith, below)
    by_cases false below = le_refl _
inside_lower l (Integer i) = le_refl _
inside_lower l Void = le_refl _
inside_lower l (Ptr t) = le_refl _
inside_lower l (Struct x) = le_refl _
