-- Whether the guard of some part is a fact after the first so many parts, and has P.
use Rattle.std.specs.Prelude.{◌≡◌, ℕ, zero, suc, Bool, true, List, [], ◌∷◌, Option, Some, None, ◌⊎◌}
use Rattle.c_values.specs.Name.{Name}
use Rattle.expression_lang.specs.Expression.{Exp}
use Rattle.ac_expr.specs.Passed.{Part}
use Rattle.ac_expr.specs.Lasting.{is_unnamed, lasts_passed}

abbrev pub GuardHas : (Exp → Type 0) → Option Exp → Type 0
GuardHas P None = ⊥
GuardHas P (Some e) = P e

-- P, and it lasts through its part's names and the parts behind it
abbrev pub Kept : (Exp → Type 0) → ℕ → List Name → List Part → Exp → Type 0
Kept P n xs ps e = (P e × (is_unnamed xs e ≡ true)) × (lasts_passed n ps e ≡ true)

abbrev pub SomeGuard : (Exp → Type 0) → ℕ → List Part → Type 0
SomeGuard P zero ps = ⊥
SomeGuard P (suc n) [] = ⊥
SomeGuard P (suc n) (p ∷ ps) = GuardHas (Kept P n p.names ps) p.guard ⊎ SomeGuard P n ps

-- P, and it lasts through what comes later
abbrev pub Lasting : (Exp → Type 0) → (Exp → Bool) → Exp → Type 0
Lasting P q e = P e × (q e ≡ true)
