-- Expressions whose value is 1 or 0, and what stands for the truth of one.
use Rattle.std.specs.Prelude.{Bool, true, false}
use Rattle.c_values.specs.Layout.{Layout}
use Rattle.expression_lang.specs.Expression as E
use Rattle.c_lang.specs.Typed.{Expr, Compare, Equate, Not, And, Or}
use Rattle.generation.specs.Guards.{truth}

-- a comparison, `!`, `&&` or `||`
abbrev pub IsTest : Expr → Type 0
IsTest (Compare r i a b) = Unit {0}
IsTest (Equate q t a b) = Unit {0}
IsTest (Not a) = Unit {0}
IsTest (And a b) = Unit {0}
IsTest (Or a b) = Unit {0}
IsTest _ = ⊥

-- what stands for an expression that is true, or for one that isn't
abbrev pub where_is : Layout → Expr → Bool → E.Exp
where_is l e true = truth l e
where_is l e false = E.Not (truth l e)
