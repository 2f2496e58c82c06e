-- A constant expression has a value, and is left as an expression.
use Rattle.std.proofs.Common.{◌≡◌, ℤ, Bool, true, false, sym, ap, ◌∙◌}
use Rattle.std.specs.Prelude.{Result, Ok, Err, MatchResult, Option, Some, None, is_some}
use Rattle.c_grammar.specs.Tree as tree
use Rattle.typing_rules.specs.declared.fault.TypeKind.{TypeKind}
use Rattle.typing_rules.specs.declared.rulings.Refusal.{Refusal}
use Rattle.typing_rules.specs.declared.rulings.Refusal.TheVariants.{Kind}
use Rattle.typing_rules.specs.Checked.{Good, changed, rule, ruled, then, ◌>>=◌}
use Rattle.typing_rules.specs.Constant.{constant_value}
use Rattle.typing_rules.specs.Expressions.{constant_of, first, note, value}
use Rattle.typing_rules.specs.Globals.{constant_expression}
use Rattle.typing_rules.specs.Scope.{Scope}
use Rattle.c_lang.specs.Cast.{has_cast}
use Rattle.c_lang.specs.Typed as C
use Rattle.typing_expressions.proofs.Steps.{behind_good}

-- a test that doesn't refuse is false
pub not_refused : (test : Bool) (kind : TypeKind) (r : Result (Unit {0}) Refusal) (v : Unit {0}) → MatchResult r (λ _. test ≡ false) (λ e. (test ≡ true) × (e ≡ Kind kind)) → r ≡ Ok v → test ≡ false
not_refused test kind (Ok u) v h e = h
not_refused test kind (Err x) v h e = absurd cc

-- an expression that has a constant value, as an expression
pub constant_kept : (x : tree.Exp) (a : C.Expr) (s t u : Scope) → value x s ≡ Good (a, t) → is_some (constant_value t.layout a) ≡ true → u ≡ note (has_cast a) t → constant_expression x s ≡ Good (a, u)
constant_kept x a s t u typed known noted =
    behind_good (value x s) a t (λ b. rule (first x) (λ v. constant_of b (constant_value v.layout b)) >>= λ c. changed (note (has_cast b)) b) typed ∙ by_value (constant_value t.layout a) known
  where
    by_value : (n : Option ℤ) → is_some n ≡ true → then (ruled (first x) t (constant_of a n)) (λ c. changed (note (has_cast a)) a) ≡ Good (a, u)
    by_value (Some n) h = ap (λ v. Good (a, v)) (sym noted)
    by_value None h = absurd cc
