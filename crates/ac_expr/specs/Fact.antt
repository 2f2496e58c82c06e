-- Facts: what is known at a place of a program. A fact stands for an expression, which the code doesn't build.
use Rattle.std.specs.Prelude.{◌≡◌, ℤ, true, List, [], ◌∷◌}
use Rattle.c_values.specs.Types.{CType}
use Rattle.c_values.specs.Layout.{Layout}
use Rattle.expression_lang.specs.Expression.{Exp, NumberLit, Le, Between, Eq, Not, Tagged}
use Rattle.expression_lang.specs.Evaluation.{Env, State, holds}

pub data Fact : Type 0 where
  Whole : Exp → Fact
  NotTrue : Exp → Fact
  IsTagged : CType → Exp → Fact
  IsBetween : ℤ → Exp → ℤ → Fact
  AtLeast : Exp → ℤ → Fact
  AtMost : Exp → ℤ → Fact
  Equal : Exp → Exp → Fact

-- the expression that a fact stands for
abbrev pub stands_for : Fact → Exp
stands_for (Whole e) = e
stands_for (NotTrue e) = Not e
stands_for (IsTagged t p) = Tagged t p
stands_for (IsBetween low e high) = Between low e high
stands_for (AtLeast e low) = Le (NumberLit low) e
stands_for (AtMost e high) = Le e (NumberLit high)
stands_for (Equal a b) = Eq a b

-- what a fact says of an environment and a state
abbrev pub Says : Layout → Env → State → Fact → Type 0
Says l env s f = holds l env s (stands_for f) ≡ true

abbrev pub AllSay : Layout → Env → State → List Fact → Type 0
AllSay l env s [] = Unit {0}
AllSay l env s (f ∷ fs) = Says l env s f × AllSay l env s fs
