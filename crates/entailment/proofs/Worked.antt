-- Examples of the rules: from `a = n` and `0 <= n <= 100` it follows that `0 <= a`, by both facts once; and not where the second is
-- taken never.
use Rattle.std.proofs.Common.{◌≡◌, Bool, true, false, List, [], ◌∷◌, ℤ, pos, neg_ℤ, codes, inl, inr, refl, None, Some}
use Rattle.std.specs.Prelude.{◌+ℤ◌, ◌-ℤ◌, ◌*ℤ◌, if◌then◌else◌}
use Rattle.c_values.specs.Layout.{Layout}
use Rattle.expression_lang.specs.Expression.{Exp, Var, NumberLit, Le, Between, Eq, And}
use Rattle.expression_lang.specs.Sort.{Scope, NumberSort}
use Rattle.ac_expr.specs.Fact.{Fact, Whole}
use Rattle.ac_expr.specs.SameExp.{same_exp}
use Rattle.triple_lang.specs.Entail.{Weighed}
use Rattle.entailment.specs.Linear.{Place, Constant, Unknown, of_unknown, IsNarrow, AllNarrow, Inequality, excess, times, plus, IsLinear}

abbrev a : Exp
a = Var (codes "a")

abbrev n : Exp
n = Var (codes "n")

abbrev zero : Exp
zero = NumberLit (pos 0)

-- every name is a number's
abbrev numbers : Layout → Scope
numbers l = record { layout = l; names = λ x. Some NumberSort; globals = λ x. None }

abbrev known : List Fact
known = Whole (And (Eq a n) (Between (pos 0) n (pos 100))) ∷ []

abbrev minus_one : ℤ
minus_one = neg_ℤ (pos 1)

abbrev equal : Weighed
equal = record { weight = minus_one; fact = Eq a n }

abbrev positive : ℤ → Weighed
positive k = record { weight = k; fact = Le zero n }

-- `a` less `n`, less 0, and 0 less `n`
abbrev denied : Inequality
denied = record { left = a; right = zero; strict = true }

abbrev equation : Inequality
equation = record { left = a; right = n; strict = false }

abbrev least : Inequality
least = record { left = zero; right = n; strict = false }

abbrev start : Place → ℤ
start = times (pos 1) (Some denied)

-- what holds of the coefficients of `a` and `n` at an unknown: it is one of them or none
by_cases : (P : ℤ → ℤ → Type 0) → P (pos 1) (pos 0) → P (pos 0) (pos 1) → P (pos 0) (pos 0) → P (pos 1) (pos 1) → (b c : Bool) →
    P (if b then pos 1 else pos 0) (if c then pos 1 else pos 0)
by_cases P x y z w true true = w
by_cases P x y z w true false = x
by_cases P x y z w false true = y
by_cases P x y z w false false = z

at_unknown : (P : ℤ → ℤ → Type 0) → P (pos 1) (pos 0) → P (pos 0) (pos 1) → P (pos 0) (pos 0) → P (pos 1) (pos 1) → (u : Exp) →
    P (of_unknown (Unknown u) a) (of_unknown (Unknown u) n)
at_unknown P x y z w u = by_cases P x y z w (same_exp u a) (same_exp u n)

narrow_denied : AllNarrow (excess denied)
narrow_denied Constant = refl
narrow_denied (Unknown u) = at_unknown (λ p q. IsNarrow ((p -ℤ pos 0) +ℤ pos 0)) refl refl refl refl u

narrow_start : AllNarrow start
narrow_start Constant = refl
narrow_start (Unknown u) = at_unknown (λ p q. IsNarrow (pos 1 *ℤ ((p -ℤ pos 0) +ℤ pos 0))) refl refl refl refl u

narrow_equation : AllNarrow (excess equation)
narrow_equation Constant = refl
narrow_equation (Unknown u) = at_unknown (λ p q. IsNarrow ((p -ℤ q) +ℤ pos 0)) refl refl refl refl u

narrow_equal : AllNarrow (times minus_one (Some equation))
narrow_equal Constant = refl
narrow_equal (Unknown u) = at_unknown (λ p q. IsNarrow (minus_one *ℤ ((p -ℤ q) +ℤ pos 0))) refl refl refl refl u

narrow_first : AllNarrow (plus start equal)
narrow_first Constant = refl
narrow_first (Unknown u) =
    at_unknown (λ p q. IsNarrow ((pos 1 *ℤ ((p -ℤ pos 0) +ℤ pos 0)) +ℤ (minus_one *ℤ ((p -ℤ q) +ℤ pos 0)))) refl refl refl refl u

narrow_least : AllNarrow (excess least)
narrow_least Constant = refl
narrow_least (Unknown u) = at_unknown (λ p q. IsNarrow ((pos 0 -ℤ q) +ℤ pos 0)) refl refl refl refl u

narrow_positive : AllNarrow (times (pos 1) (Some least))
narrow_positive Constant = refl
narrow_positive (Unknown u) = at_unknown (λ p q. IsNarrow (pos 1 *ℤ ((pos 0 -ℤ q) +ℤ pos 0))) refl refl refl refl u

abbrev sum : ℤ → ℤ → ℤ
sum p q = ((pos 1 *ℤ ((p -ℤ pos 0) +ℤ pos 0)) +ℤ (minus_one *ℤ ((p -ℤ q) +ℤ pos 0))) +ℤ (pos 1 *ℤ ((pos 0 -ℤ q) +ℤ pos 0))

narrow_last : AllNarrow (plus (plus start equal) (positive (pos 1)))
narrow_last Constant = refl
narrow_last (Unknown u) = at_unknown (λ p q. IsNarrow (sum p q)) refl refl refl refl u

pub least_follows : (l : Layout) → IsLinear (numbers l) known (pos 1) (equal ∷ positive (pos 1) ∷ []) (Le zero a)
least_follows l = record {
  denied = (refl, (tt, refl, narrow_denied, narrow_start));
  taken = (
    record {
      known = inr (inl (inr (inl refl)));
      numbers = (refl, refl);
      weight = inl refl;
      fine = (tt, tt, narrow_equation, narrow_equal);
    },
    narrow_first,
    (
      record {
        known = inr (inl (inr (inr (inr (inl refl)))));
        numbers = tt;
        weight = inr refl;
        fine = (refl, tt, narrow_least, narrow_positive);
      },
      narrow_last,
      tt,
    ),
  );
  unknowns = at_unknown (λ p q. sum p q ≡ pos 0) refl refl refl refl;
  constant = refl;
}

pub least_needs_its_fact : (l : Layout) → IsLinear (numbers l) known (pos 1) (equal ∷ positive (pos 0) ∷ []) (Le zero a) → ⊥
least_needs_its_fact l h = let wrong : pos 1 ≡ pos 0 = h.unknowns n in absurd cc
