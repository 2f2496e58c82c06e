-- A node that its rule types leaves a value, and it is noted whether there was a conversion.
use Rattle.std.proofs.Common.{◌≡◌, ℕ, Bool, sym, ap, ◌∙◌}
use Rattle.std.specs.Prelude.{Result, Ok}
use Rattle.typing_rules.specs.declared.rulings.Refusal.{Refusal}
use Rattle.typing_rules.specs.CodeAnswers.{RulesAs}
use Rattle.typing_rules.specs.Checked.{Ruling, Good, changed, ruled, then}
use Rattle.typing_rules.specs.Expressions.{note}
use Rattle.typing_rules.specs.Scope.{Scope}
use Rattle.typing_expressions.proofs.Steps.{behind_good, node_good}

pub noted_good : {T A : Type 0} (view : T → A) (at : ℕ) (s t : Scope) (answer : Result T Refusal) (v : T) (r : Ruling A) (found has : Bool) → RulesAs view answer r → answer ≡ Ok v → found ≡ has → t ≡ note found s → then (ruled at s r) (changed (note has)) ≡ Good (view v, t)
noted_good view at s t answer v r found has h is same behind =
    behind_good (ruled at s r) (view v) s (changed (note has)) (node_good view at s answer v r h is) ∙ ap (λ u. Good (view v, u)) (sym (behind ∙ ap (λ b. note b s) same))
