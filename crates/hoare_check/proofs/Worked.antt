-- An example: `inc` gives its parameter and one more, where the parameter is at most 100.
use Rattle.std.proofs.Common.{◌≡◌, Bool, true, false, List, [], ◌∷◌, ℤ, pos, neg_ℤ, codes, inl, inr, refl, subst, Some}
use Rattle.std.specs.Prelude.{◌+ℤ◌, ◌-ℤ◌, ◌*ℤ◌, if◌then◌else◌}
use Rattle.c_values.specs.Layout.{Layout}
use Rattle.c_values.specs.Number.{Add}
use Rattle.expression_lang.specs.Expression.{Exp, Var, NumberLit, TruthLit, Arith, Le, Between, Eq, And}
use Rattle.expression_lang.specs.Sort.{NumberSort, Numbers, NatKind}
use Rattle.ac_expr.specs.Fact.{Fact, Whole}
use Rattle.ac_expr.specs.Known.{IsKnown}
use Rattle.ac_expr.specs.SameExp.{same_exp}
use Rattle.monad_lang.specs.Program as M
use Rattle.monad_lang.specs.Program.{Mon, FinalFn, FinalUnit}
use Rattle.rule_trees.specs.RuleTree.{Tree, node, no_trees, tree}
use Rattle.exactness.specs.Triple.{Assertions}
use Rattle.triple_lang.specs.Entail as E
use Rattle.triple_lang.specs.Entail.{Weighed}
use Rattle.entailment.specs.Rewritten.{kept, made, inside, none, each}
use Rattle.entailment.specs.Linear.{Place, Constant, Unknown, of_unknown, IsNarrow, AllNarrow, Inequality, coefficient, excess, times, plus, IsLinear}
use Rattle.triple_lang.specs.Deriv as R
use Rattle.triple_lang.specs.Deriv.{Rule, Names, derived}
use Rattle.hoare_check.specs.DeriveTable.{scope}
use Rattle.triple_lang.specs.Triple.{Triple}
use Rattle.hoare_check.specs.Accepted.{IsAccepted, ground, names_before}

abbrev a : Exp
a = Var (codes "a")

abbrev n : Exp
n = Var (codes "n")

abbrev number : ℤ → Exp
number z = NumberLit z

abbrev plus_one : Exp → Exp
plus_one e = Arith Add e (number (pos 1))

abbrev greatest : ℤ
greatest = pos 4294967295

abbrev guard : Exp
guard = Between (pos 0) (plus_one a) greatest

-- do guard (0 <= a + 1 <= 4294967295); ret (a + 1)
abbrev inc : FinalFn
inc = record {
  name = codes "inc";
  level = Numbers;
  params = record { name = codes "a"; kind = NatKind 32 } ∷ [];
  results = NatKind 32 ∷ [];
  body = M.Bind (M.Guard guard) [] (M.Ret (plus_one a ∷ []));
}

abbrev unit : Layout → FinalUnit
unit l = record { layout = l; globals = []; functions = inc ∷ [] }

abbrev assertions : Assertions
assertions = record {
  function = codes "inc";
  logicals = record { name = codes "n"; sort = NumberSort } ∷ [];
  before = And (Eq a n) (Between (pos 0) n (pos 100));
  after = Eq (Var (codes "result")) (plus_one n);
}

abbrev minus_one : ℤ
minus_one = neg_ℤ (pos 1)

abbrev equal : ℤ → Weighed
equal z = record { weight = z; fact = Eq a n }

abbrev positive : Weighed
positive = record { weight = pos 1; fact = Le (number (pos 0)) n }

abbrev small : Weighed
small = record { weight = pos 1; fact = Le n (number (pos 100)) }

-- Trees

abbrev leaf : Rule → Tree Rule
leaf r = node r no_trees

abbrev both : Rule → Tree Rule → Tree Rule → Tree Rule
both r t u = node r (tree t (tree u no_trees))

abbrev only : Rule → Tree Rule → Tree Rule
only r t = node r (tree t no_trees)

abbrev shows : E.Rule → Tree Rule
shows r = leaf (R.Shows r)

abbrev lower : Tree Rule
lower = shows (E.Linear (pos 1) (equal minus_one ∷ positive ∷ []))

abbrev upper : Tree Rule
upper = shows (E.Linear (pos 1) (equal (pos 1) ∷ small ∷ []))

abbrev result : Exp
result = Eq (plus_one a) (plus_one n)

abbrev derivation : Tree Rule
derivation =
    both (R.Bind (Eq a n))
    (both R.Guard (both (R.Shows E.Between) lower upper) (shows E.Hyp))
    (only (R.Ret result) (both (R.Shows (E.Rewrite a n (Eq (plus_one n) (plus_one n)))) (shows E.Hyp) (shows E.Same)))

abbrev triple : Triple
triple = record { assertions = assertions; derivation = derivation }

-- Linear arithmetic

-- what holds of the coefficients of `a` and `n` at an unknown: it is one of them or none
by_cases : (P : ℤ → ℤ → Type 0) → P (pos 1) (pos 0) → P (pos 0) (pos 1) → P (pos 0) (pos 0) → P (pos 1) (pos 1) → (b c : Bool) →
    P (if b then pos 1 else pos 0) (if c then pos 1 else pos 0)
by_cases P x y z w true true = w
by_cases P x y z w true false = x
by_cases P x y z w false true = y
by_cases P x y z w false false = z

at_unknown : (P : ℤ → ℤ → Type 0) → P (pos 1) (pos 0) → P (pos 0) (pos 1) → P (pos 0) (pos 0) → P (pos 1) (pos 1) → (u : Exp) →
    P (of_unknown (Unknown u) a) (of_unknown (Unknown u) n)
at_unknown P x y z w u = by_cases P x y z w (same_exp u a) (same_exp u n)

-- narrow at each place, if it is at the constant, and at an unknown as this function of what `a` and `n` have there
narrow : (f : Place → ℤ) (g : ℤ → ℤ → ℤ) → IsNarrow (f Constant) → ((u : Exp) → g (of_unknown (Unknown u) a) (of_unknown (Unknown u) n) ≡ f (Unknown u)) →
    IsNarrow (g (pos 1) (pos 0)) → IsNarrow (g (pos 0) (pos 1)) → IsNarrow (g (pos 0) (pos 0)) → IsNarrow (g (pos 1) (pos 1)) → AllNarrow f
narrow f g constant same x y z w Constant = constant
narrow f g constant same x y z w (Unknown u) = subst IsNarrow (same u) (at_unknown (λ p q. IsNarrow (g p q)) x y z w u)

abbrev equation : Inequality
equation = record { left = a; right = n; strict = false }

abbrev difference : ℤ → ℤ → ℤ
difference p q = (p -ℤ q) +ℤ pos 0

narrow_equation : AllNarrow (excess equation)
narrow_equation = narrow (excess equation) difference refl (λ u. refl) refl refl refl refl

narrow_sum : AllNarrow (λ k. coefficient k (plus_one a))
narrow_sum = narrow (λ k. coefficient k (plus_one a)) (λ p q. p +ℤ pos 0) refl (λ u. refl) refl refl refl refl

-- 0 <= a + 1

abbrev too_low : Inequality
too_low = record { left = plus_one a; right = number (pos 0); strict = true }

abbrev least : Inequality
least = record { left = number (pos 0); right = n; strict = false }

abbrev below : ℤ → ℤ → ℤ
below p q = ((p +ℤ pos 0) -ℤ pos 0) +ℤ pos 0

abbrev below_first : ℤ → ℤ → ℤ
below_first p q = (pos 1 *ℤ below p q) +ℤ (minus_one *ℤ difference p q)

abbrev below_all : ℤ → ℤ → ℤ
below_all p q = below_first p q +ℤ (pos 1 *ℤ ((pos 0 -ℤ q) +ℤ pos 0))

abbrev start_low : Place → ℤ
start_low = times (pos 1) (Some too_low)

lower_follows : (l : Layout) (fs : List Fact) → IsKnown fs (Eq a n) → IsKnown fs (Le (number (pos 0)) n) →
    IsLinear (scope (ground (unit l) (triple ∷ []) inc) (names_before inc assertions)) fs (pos 1) (equal minus_one ∷ positive ∷ []) (Le (number (pos 0)) (plus_one a))
lower_follows l fs h k = record {
  denied = (
    refl,
    (
      (tt, refl, narrow_sum),
      refl,
      narrow (excess too_low) below refl (λ u. refl) refl refl refl refl,
      narrow start_low (λ p q. pos 1 *ℤ below p q) refl (λ u. refl) refl refl refl refl,
    ),
  );
  taken = (
    record {
      known = h;
      numbers = (refl, refl);
      weight = inl refl;
      fine = (tt, tt, narrow_equation, narrow (times minus_one (Some equation)) (λ p q. minus_one *ℤ difference p q) refl (λ u. refl) refl refl refl refl);
    },
    narrow (plus start_low (equal minus_one)) below_first refl (λ u. refl) refl refl refl refl,
    (
      record {
        known = k;
        numbers = tt;
        weight = inr refl;
        fine = (
          refl,
          tt,
          narrow (excess least) (λ p q. (pos 0 -ℤ q) +ℤ pos 0) refl (λ u. refl) refl refl refl refl,
          narrow (times (pos 1) (Some least)) (λ p q. pos 1 *ℤ ((pos 0 -ℤ q) +ℤ pos 0)) refl (λ u. refl) refl refl refl refl,
        );
      },
      narrow (plus (plus start_low (equal minus_one)) positive) below_all refl (λ u. refl) refl refl refl refl,
      tt,
    ),
  );
  unknowns = at_unknown (λ p q. below_all p q ≡ pos 0) refl refl refl refl;
  constant = refl;
}

-- a + 1 <= 4294967295

abbrev too_high : Inequality
too_high = record { left = number greatest; right = plus_one a; strict = true }

abbrev most : Inequality
most = record { left = n; right = number (pos 100); strict = false }

abbrev above : ℤ → ℤ → ℤ
above p q = (pos 0 -ℤ (p +ℤ pos 0)) +ℤ pos 0

abbrev above_first : ℤ → ℤ → ℤ
above_first p q = (pos 1 *ℤ above p q) +ℤ (pos 1 *ℤ difference p q)

abbrev above_all : ℤ → ℤ → ℤ
above_all p q = above_first p q +ℤ (pos 1 *ℤ ((q -ℤ pos 0) +ℤ pos 0))

abbrev start_high : Place → ℤ
start_high = times (pos 1) (Some too_high)

upper_follows : (l : Layout) (fs : List Fact) → IsKnown fs (Eq a n) → IsKnown fs (Le n (number (pos 100))) →
    IsLinear (scope (ground (unit l) (triple ∷ []) inc) (names_before inc assertions)) fs (pos 1) (equal (pos 1) ∷ small ∷ []) (Le (plus_one a) (number greatest))
upper_follows l fs h k = record {
  denied = (
    refl,
    (
      refl,
      (tt, refl, narrow_sum),
      narrow (excess too_high) above refl (λ u. refl) refl refl refl refl,
      narrow start_high (λ p q. pos 1 *ℤ above p q) refl (λ u. refl) refl refl refl refl,
    ),
  );
  taken = (
    record {
      known = h;
      numbers = (refl, refl);
      weight = inl refl;
      fine = (tt, tt, narrow_equation, narrow (times (pos 1) (Some equation)) (λ p q. pos 1 *ℤ difference p q) refl (λ u. refl) refl refl refl refl);
    },
    narrow (plus start_high (equal (pos 1))) above_first refl (λ u. refl) refl refl refl refl,
    (
      record {
        known = k;
        numbers = tt;
        weight = inr refl;
        fine = (
          tt,
          refl,
          narrow (excess most) (λ p q. (q -ℤ pos 0) +ℤ pos 0) refl (λ u. refl) refl refl refl refl,
          narrow (times (pos 1) (Some most)) (λ p q. pos 1 *ℤ ((q -ℤ pos 0) +ℤ pos 0)) refl (λ u. refl) refl refl refl refl,
        );
      },
      narrow (plus (plus start_high (equal (pos 1))) small) above_all refl (λ u. refl) refl refl refl refl,
      tt,
    ),
  );
  unknowns = at_unknown (λ p q. above_all p q ≡ pos 0) refl refl refl refl;
  constant = refl;
}

-- The triple

pub inc_is_accepted : (l : Layout) → IsAccepted (unit l) (triple ∷ []) triple
inc_is_accepted l = record {
  function = inc;
  found = refl;
  assertions = record { names = refl; no_result = refl; before_sorted = refl; after_sorted = refl };
  derivation = (
    (refl, refl),
    (
      (
        tt,
        (
          (
            tt,
            (
              (lower_follows l _ (inr (inl (inr (inl refl)))) (inr (inl (inr (inr (inr (inl refl)))))), tt),
              ((upper_follows l _ (inr (inl (inr (inl refl)))) (inr (inl (inr (inr (inr (inr refl)))))), tt), tt),
            ),
          ),
          ((inr (inr (inl (inr (inl refl)))), tt), tt),
        ),
      ),
      (
        (
          (refl, refl),
          (
            (
              (refl, refl, inside refl (each (inside refl (each made (each kept none))) (each kept none))),
              ((inr (inl refl), tt), ((refl, tt), tt)),
            ),
            tt,
          ),
        ),
        tt,
      ),
    ),
  );
}

-- where nothing bounds `n`, its least value isn't known
abbrev unbounded : List Fact
unbounded = Whole (And (Eq a n) (TruthLit true)) ∷ []

unknown_bound : IsKnown unbounded (Le (number (pos 0)) n) → ⊥
unknown_bound (inl e) = absurd cc
unknown_bound (inr (inl (inl e))) = absurd cc
unknown_bound (inr (inl (inr (inl e)))) = absurd cc
unknown_bound (inr (inl (inr (inr e)))) = absurd cc
unknown_bound (inr (inr e)) = absurd e

pub inc_needs_its_bound : (l : Layout) →
    IsLinear (scope (ground (unit l) (triple ∷ []) inc) (names_before inc assertions)) unbounded (pos 1) (equal minus_one ∷ positive ∷ []) (Le (number (pos 0)) (plus_one a)) → ⊥
inc_needs_its_bound l h = unknown_bound h.taken.2.0.known
