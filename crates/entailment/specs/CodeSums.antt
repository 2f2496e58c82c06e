-- Sums of inequalities at one place, as the code computes them: there is none where something isn't narrow on the way.
use Rattle.std.specs.Prelude.{◌≡◌, ◌^◌, nat_lt, Bool, true, false, not, List, [], ◌∷◌, Option, Some, None, ℤ, pos, neg_ℤ, ◌+ℤ◌, ◌-ℤ◌, ◌*ℤ◌, int_lt, int_le, unsigned_abs, ◌&&◌, ◌||◌, if◌then◌else◌}
use Rattle.std.specs.Ordering.{int_eq}
use Rattle.c_values.specs.Number.{Add, Sub, Mul}
use Rattle.expression_lang.specs.Expression.{Exp, NumberLit, TruthLit, Arith, Negate, Eq}
use Rattle.expression_lang.specs.Sort.{Scope, sort_of, is_number}
use Rattle.ac_expr.specs.Fact.{Fact}
use Rattle.ac_expr.specs.Known.{IsKnown}
use Rattle.triple_lang.specs.Entail.{Weighed}
use Rattle.entailment.specs.Linear.{Place, Constant, Unknown, of_literal, of_unknown, Inequality, one_where, stated, opposite, is_equation}

-- Expressions

abbrev pub narrow : ℤ → Option ℤ
narrow n = if nat_lt (unsigned_abs n) (2 ^ 128) then Some n else None

abbrev pub of_one : (ℤ → ℤ) → Option ℤ → Option ℤ
of_one f None = None
of_one f (Some m) = narrow (f m)

abbrev pub of_two : (ℤ → ℤ → ℤ) → Option ℤ → Option ℤ → Option ℤ
of_two f None p = None
of_two f (Some m) None = None
of_two f (Some m) (Some n) = narrow (f m n)

abbrev pub literal : Exp → Option ℤ
literal (NumberLit n) = Some n
literal e = None

abbrev pub at_literal : Place → Option ℤ → Option ℤ
at_literal k None = None
at_literal k (Some n) = Some (of_literal k n)

-- a product, where its factors are these literals, and have these coefficients
abbrev pub of_factors : Place → Exp → Option ℤ → Option ℤ → Option ℤ → Option ℤ → Option ℤ
of_factors k e (Some n) q x y = of_two (λ a b. a *ℤ b) (narrow n) y
of_factors k e None (Some n) x y = of_two (λ a b. a *ℤ b) (narrow n) x
of_factors k e None None x y = Some (of_unknown k e)

-- what an expression has at a place
abbrev pub found : Place → Exp → Option ℤ
found k (NumberLit n) = at_literal k (narrow n)
found k (Arith Add a b) = of_two (λ x y. x +ℤ y) (found k a) (found k b)
found k (Arith Sub a b) = of_two (λ x y. x -ℤ y) (found k a) (found k b)
found k (Arith Mul a b) = of_factors k (Arith Mul a b) (literal a) (literal b) (found k a) (found k b)
found k (Negate a) = of_one neg_ℤ (found k a)
found k e = Some (of_unknown k e)

abbrev pub in_factors : Option ℤ → Option ℤ → Bool → Bool → Bool → Bool
in_factors (Some n) q x y z = y
in_factors None (Some n) x y z = x
in_factors None None x y z = z

-- each unknown of an expression passes the test
abbrev pub each_unknown : (Exp → Bool) → Exp → Bool
each_unknown test (NumberLit n) = true
each_unknown test (Arith Add a b) = each_unknown test a && each_unknown test b
each_unknown test (Arith Sub a b) = each_unknown test a && each_unknown test b
each_unknown test (Arith Mul a b) = in_factors (literal a) (literal b) (each_unknown test a) (each_unknown test b) (test (Arith Mul a b))
each_unknown test (Negate a) = each_unknown test a
each_unknown test e = test e

-- Inequalities

abbrev pub excess_found : Place → Inequality → Option ℤ
excess_found k i = of_two (λ x y. (x -ℤ y) +ℤ one_where i.strict k) (found k i.left) (found k i.right)

abbrev pub times_found : ℤ → Option Inequality → Place → Option ℤ
times_found n None k = None
times_found n (Some i) k = of_one (λ x. n *ℤ x) (excess_found k i)

abbrev pub each_in : (Exp → Bool) → Option Inequality → Bool
each_in test None = true
each_in test (Some i) = each_unknown test i.left && each_unknown test i.right

-- Sums

-- the claim that nothing holds
abbrev pub is_nothing : Exp → Bool
is_nothing (TruthLit b) = not b
is_nothing e = false

abbrev pub first_found : ℤ → Exp → Place → Option ℤ
first_found n q k = if is_nothing q then Some (pos 0) else times_found n (opposite q) k

abbrev pub added : Option ℤ → Weighed → Place → Option ℤ
added sum w k = of_two (λ x y. x +ℤ y) sum (times_found w.weight (stated w.fact) k)

abbrev pub added_all : Option ℤ → List Weighed → Place → Option ℤ
added_all sum [] k = sum
added_all sum (w ∷ ws) k = added_all (added sum w k) ws k

abbrev pub total_found : ℤ → List Weighed → Exp → Place → Option ℤ
total_found n ws q k = added_all (first_found n q k) ws k

abbrev pub is_zero : Option ℤ → Bool
is_zero None = false
is_zero (Some n) = int_eq n (pos 0)

abbrev pub is_positive : Option ℤ → Bool
is_positive None = false
is_positive (Some n) = int_lt (pos 0) n

-- an unknown isn't left in the sum
abbrev pub cancels : ℤ → List Weighed → Exp → Exp → Bool
cancels n ws q u = is_zero (total_found n ws q (Unknown u))

abbrev pub each_in_all : (Exp → Bool) → List Weighed → Bool
each_in_all test [] = true
each_in_all test (w ∷ ws) = each_in test (stated w.fact) && each_in_all test ws

abbrev pub may_deny : ℤ → Exp → Bool
may_deny n q = if is_nothing q then int_eq n (pos 0) else int_le (pos 0) n

-- the sum of all is a positive number
abbrev pub contradicts : ℤ → List Weighed → Exp → Bool
contradicts n ws q =
    may_deny n q && is_positive (total_found n ws q Constant) && each_in (cancels n ws q) (opposite q) && each_in_all (cancels n ws q) ws

-- Facts

abbrev pub are_numbers : Scope → Exp → Bool
are_numbers g (Eq a b) = is_number (sort_of g a) && is_number (sort_of g b)
are_numbers g e = true

abbrev pub may_weigh : Scope → Weighed → Bool
may_weigh g w = are_numbers g w.fact && (is_equation w.fact || int_le (pos 0) w.weight)

abbrev pub MayTake : Scope → List Fact → Weighed → Type 0
MayTake g fs w = IsKnown fs w.fact × (may_weigh g w ≡ true)

abbrev pub AllMayTake : Scope → List Fact → List Weighed → Type 0
AllMayTake g fs [] = Unit {0}
AllMayTake g fs (w ∷ ws) = MayTake g fs w × AllMayTake g fs ws

-- what the code asks
abbrev pub IsFound : Scope → List Fact → ℤ → List Weighed → Exp → Type 0
IsFound g fs n ws q = (contradicts n ws q ≡ true) × AllMayTake g fs ws
