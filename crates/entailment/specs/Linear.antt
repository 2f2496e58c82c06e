-- Linear arithmetic, by Farkas' lemma: inequalities whose sum, each taken so often, says that a positive number is at most 0
-- contradict each other. An expression is a constant and unknowns, each times its coefficient; an unknown is whatever isn't a
-- sum, a difference, a negation, a constant or a product with a constant.
use Rattle.std.specs.Prelude.{◌≡◌, ◌^◌, nat_lt, Bool, true, false, List, [], ◌∷◌, Option, Some, None, ℤ, pos, neg_ℤ, ◌+ℤ◌, ◌-ℤ◌, ◌*ℤ◌, int_lt, int_le, unsigned_abs, if◌then◌else◌, ◌⊎◌}
use Rattle.c_values.specs.Number.{Add, Sub, Mul}
use Rattle.expression_lang.specs.Expression.{Exp, NumberLit, TruthLit, Arith, Negate, Lt, Le, Eq}
use Rattle.expression_lang.specs.Sort.{Scope, sort_of, is_number}
use Rattle.ac_expr.specs.Fact.{Fact}
use Rattle.ac_expr.specs.Known.{IsKnown}
use Rattle.ac_expr.specs.SameExp.{same_exp}
use Rattle.triple_lang.specs.Entail.{Weighed}

-- Expressions

-- the constant of an expression, or the coefficient of an unknown
pub data Place : Type 0 where
  Constant : Place
  Unknown : Exp → Place

abbrev pub of_literal : Place → ℤ → ℤ
of_literal Constant n = n
of_literal (Unknown u) n = pos 0

abbrev pub of_unknown : Place → Exp → ℤ
of_unknown Constant e = pos 0
of_unknown (Unknown u) e = if same_exp u e then pos 1 else pos 0

-- what an expression has at a place
abbrev pub coefficient : Place → Exp → ℤ
coefficient k (NumberLit n) = of_literal k n
coefficient k (Arith Add a b) = coefficient k a +ℤ coefficient k b
coefficient k (Arith Sub a b) = coefficient k a -ℤ coefficient k b
coefficient k (Arith Mul (NumberLit n) b) = n *ℤ coefficient k b
coefficient k (Arith Mul a (NumberLit n)) = n *ℤ coefficient k a
coefficient k (Negate a) = neg_ℤ (coefficient k a)
coefficient k e = of_unknown k e

-- below 2 to the 128 in magnitude
abbrev pub IsNarrow : ℤ → Type 0
IsNarrow n = nat_lt (unsigned_abs n) (2 ^ 128) ≡ true

abbrev pub AllNarrow : (Place → ℤ) → Type 0
AllNarrow f = (k : Place) → IsNarrow (f k)

-- the constant and all coefficients of each subexpression are narrow
abbrev pub AreNarrow : Exp → Type 0
AreNarrow (NumberLit n) = IsNarrow n
AreNarrow (Arith Add a b) = AreNarrow a × AreNarrow b × AllNarrow (λ k. coefficient k (Arith Add a b))
AreNarrow (Arith Sub a b) = AreNarrow a × AreNarrow b × AllNarrow (λ k. coefficient k (Arith Sub a b))
AreNarrow (Arith Mul (NumberLit n) b) = IsNarrow n × AreNarrow b × AllNarrow (λ k. coefficient k (Arith Mul (NumberLit n) b))
AreNarrow (Arith Mul a (NumberLit n)) = AreNarrow a × IsNarrow n × AllNarrow (λ k. coefficient k (Arith Mul a (NumberLit n)))
AreNarrow (Negate a) = AreNarrow a × AllNarrow (λ k. coefficient k (Negate a))
AreNarrow e = Unit {0}

-- Inequalities

-- two sides, the first of which is at most the second, or less by one
pub record Inequality : Type 0 where
  pub left : Exp
  pub right : Exp
  pub strict : Bool

abbrev pub inequality : Bool → Exp → Exp → Option Inequality
inequality strict a b = Some (record { left = a; right = b; strict = strict })

-- what a fact says
abbrev pub stated : Exp → Option Inequality
stated (Le a b) = inequality false a b
stated (Lt a b) = inequality true a b
stated (Eq a b) = inequality false a b
stated e = None

-- what the opposite of a claim says
abbrev pub opposite : Exp → Option Inequality
opposite (Le a b) = inequality true b a
opposite (Lt a b) = inequality false b a
opposite e = None

abbrev pub one_where : Bool → Place → ℤ
one_where true Constant = pos 1
one_where _ _ = pos 0

-- what is at most 0: the first side less the second, and one more where it is strict
abbrev pub excess : Inequality → Place → ℤ
excess i k = (coefficient k i.left -ℤ coefficient k i.right) +ℤ one_where i.strict k

abbrev pub times : ℤ → Option Inequality → Place → ℤ
times n None k = pos 0
times n (Some i) k = n *ℤ excess i k

-- an inequality, and what it gives where it is taken so often, are narrow
abbrev pub IsFine : ℤ → Option Inequality → Type 0
IsFine n None = ⊥
IsFine n (Some i) = AreNarrow i.left × AreNarrow i.right × AllNarrow (excess i) × AllNarrow (times n (Some i))

-- Sums

abbrev pub is_equation : Exp → Bool
is_equation (Eq a b) = true
is_equation e = false

-- an equation is of numbers
abbrev pub AreNumbers : Scope → Exp → Type 0
AreNumbers g (Eq a b) = (is_number (sort_of g a) ≡ true) × (is_number (sort_of g b) ≡ true)
AreNumbers g e = Unit {0}

-- a known inequality, taken so often: not less than never, but for an equation
pub record IsTaken (g : Scope) (fs : List Fact) (w : Weighed) : Type 0 where
  pub known : IsKnown fs w.fact
  pub numbers : AreNumbers g w.fact
  pub weight : (is_equation w.fact ≡ true) ⊎ (int_le (pos 0) w.weight ≡ true)
  pub fine : IsFine w.weight (stated w.fact)

abbrev pub plus : (Place → ℤ) → Weighed → Place → ℤ
plus sum w k = sum k +ℤ times w.weight (stated w.fact) k

-- the sum of all, and of what came before
abbrev pub total : (Place → ℤ) → List Weighed → Place → ℤ
total sum [] = sum
total sum (w ∷ ws) = total (plus sum w) ws

-- each is taken, and each sum is narrow
abbrev pub AreTaken : Scope → List Fact → (Place → ℤ) → List Weighed → Type 0
AreTaken g fs sum [] = Unit {0}
AreTaken g fs sum (w ∷ ws) = IsTaken g fs w × AllNarrow (plus sum w) × AreTaken g fs (plus sum w) ws

-- The opposite of the claim is taken so often, which isn't less than never; it is never where the claim is that nothing holds.
abbrev pub IsDenied : ℤ → Exp → Type 0
IsDenied n (TruthLit false) = n ≡ pos 0
IsDenied n q = (int_le (pos 0) n ≡ true) × IsFine n (opposite q)

pub record IsLinear (g : Scope) (fs : List Fact) (n : ℤ) (ws : List Weighed) (q : Exp) : Type 0 where
  pub denied : IsDenied n q
  pub taken : AreTaken g fs (times n (opposite q)) ws
  -- no unknown is left in the sum, and its constant is positive
  pub unknowns : (u : Exp) → total (times n (opposite q)) ws (Unknown u) ≡ pos 0
  pub constant : int_lt (pos 0) (total (times n (opposite q)) ws Constant) ≡ true
