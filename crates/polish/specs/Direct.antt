-- The steps in the expressions that stand in a program directly, at a point.
use Rattle.std.specs.Prelude.{ℕ, zero, suc, List, [], ◌∷◌, Option, Some, None}
use Rattle.expression_lang.specs.Sort.{Scope}
use Rattle.monad_lang.specs.Program.{Mon}
use Rattle.expression_steps.specs.Rewritten.{Choice, direct_step_in}
use Rattle.rule_eq.specs.Rule.{Point}

abbrev pub direct_step : (Scope → Choice) → Point → Mon → Option Mon
direct_step f at m = direct_step_in f at.setting.scope at.facts m

-- The programs after so many such steps at most, one after the other.

abbrev pub more : {A : Type 0} → Option A → (A → List A) → List A
more None k = []
more (Some a) k = a ∷ k a

abbrev pub direct_steps : (Scope → Choice) → Point → ℕ → Mon → List Mon
direct_steps f at zero m = []
direct_steps f at (suc n) m = more (direct_step f at m) (λ x. direct_steps f at n x)
