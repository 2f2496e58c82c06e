-- Which tree is whose text, and what the readers' answers say of it.
use Rattle.std.specs.Prelude.{◌≡◌, ℕ, true, ◌⊎◌, Result, MatchResult}
use Rattle.ac_sx.specs.Tree.{Tree}
use Rattle.expression_lang.specs.Expression.{Exp}
use Rattle.expression_text.specs.declared.fault.TextFault.{TextFault}
use Rattle.expression_text.specs.declared.fault.TextFault.TheVariants.{Shape, Memory}
use Rattle.expression_text.specs.ExpText.{exp_tree, is_exp}

-- the tree is the expression's text
abbrev pub IsExpText : Tree → Exp → Type 0
IsExpText t e = (t ≡ exp_tree e) × (is_exp e ≡ true)

-- what was read, seen so, is this, unless memory ran out
abbrev pub IsRead : {X A : Type 0} → (X → A) → Result X TextFault → A → Type 0
IsRead view r a = MatchResult r (λ x. view x ≡ a) (λ e. e ≡ Memory)

-- refused for the node of this number, unless memory ran out
abbrev pub IsRefused : {X : Type 0} → Result X TextFault → ℕ → Type 0
IsRefused r at = MatchResult r (λ _. ⊥) (λ e. (e ≡ Shape at) ⊎ (e ≡ Memory))
