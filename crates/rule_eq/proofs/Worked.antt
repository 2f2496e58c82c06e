-- Examples of the rules.
use Rattle.std.proofs.Common.{◌≡◌, Bool, true, false, ◌&&◌, ◌||◌, List, [], ◌∷◌, codes, pos, inl, refl}
use Rattle.std.proofs.lemmas.Bool.{true≢false}
use Rattle.c_values.specs.Name.{Name, same_name}
use Rattle.c_values.specs.Word.{Word}
use Rattle.expression_lang.specs.Expression.{Exp, Var, WordLit, NumberLit, Eq, Not, If}
use Rattle.expression_lang.specs.Sort.{Scope}
use Rattle.ac_expr.specs.Fact.{Fact}
use Rattle.ac_expr.specs.Step.{IsStep}
use Rattle.monad_lang.specs.Program as M
use Rattle.monad_lang.specs.Program.{Mon}
use Rattle.rule_eq.specs.Rule as R
use Rattle.rule_eq.specs.Rule.{Point}
use Rattle.rule_eq.specs.Table.{row}

abbrev x : Name
x = codes "x"

abbrev y : Name
y = codes "y"

abbrev bound_to : Exp → Name → Mon → Mon
bound_to e z m = M.Bind (M.Ret (e ∷ [])) (z ∷ []) m

abbrev gives : Exp → Mon
gives e = M.Ret (e ∷ [])

-- do x <- ret y; ret x
put_in : (at : Point) → (row at (R.RetOne 0) (bound_to (Var y) x (gives (Var x))) (gives (Var y))).holds
put_in at = (record { state = inl refl; others = refl; captured = λ z i. refl }, refl)

-- do x <- ret y; y <- ret 1; ret x: the inner y would capture the outer one
captured : (at : Point) (m : Mon) → (row at (R.RetOne 0) (bound_to (Var y) x (bound_to (NumberLit (pos 1)) y (gives (Var x)))) m).holds → ⊥
captured at m h = true≢false (h.0.captured y refl)

-- do x <- ret y; y <- ret 1; ret 2: no x is free below the inner y
not_free : (at : Point) → (row at (R.RetOne 0) (bound_to (Var y) x (bound_to (NumberLit (pos 1)) y (gives (NumberLit (pos 2))))) (bound_to (NumberLit (pos 1)) y (gives (NumberLit (pos 2))))).holds
not_free at = (record { state = inl refl; others = refl; captured = λ z i. none (same_name z y) }, refl)
  where
    none : (b : Bool) → (((b || false) && false) || false) ≡ false
    none true = refl
    none false = refl

-- a truth value as a word that isn't 0
abbrev flag : Word → Word
flag w = record { width = w.width; bits = 1 }

abbrev zero_of : Word → Word
zero_of w = record { width = w.width; bits = 0 }

shown : (g : Scope) (fs : List Fact) (c : Exp) (w : Word) → IsStep g fs (Not (Eq (If c (WordLit (flag w)) (WordLit (zero_of w))) (WordLit (zero_of w)))) c
shown g fs c w = inl (record { one = refl; zero = refl; bits = refl }, refl)
