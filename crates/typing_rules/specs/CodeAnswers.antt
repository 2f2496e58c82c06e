-- What the code's answers say. The answer of a rule is the rule's, or there is no memory; the answer to a node is that of its
-- judgement, with the scope behind it.
use Rattle.std.specs.Prelude.{◌≡◌, ℕ, Result, Ok, Err}
use Rattle.typing_rules.specs.declared.fault.TypeFault.{TypeFault}
use Rattle.typing_rules.specs.declared.fault.TypeFault.TheVariants as F
use Rattle.typing_rules.specs.declared.rulings.Refusal.{Refusal}
use Rattle.typing_rules.specs.declared.rulings.Refusal.TheVariants as R
use Rattle.typing_rules.specs.Scope.{Scope}
use Rattle.typing_rules.specs.Checked.{Checked, Good, Bad, saturated, Ruling, Ruled, Refused}

abbrev pub IsRefusalOf : {A : Type 0} → Refusal → Ruling A → Type 0
IsRefusalOf (R.Kind kind) r = r ≡ Refused kind
IsRefusalOf R.Memory r = Unit {0}

abbrev pub IsFaultOf : {A : Type 0} → TypeFault → Checked A → Type 0
IsFaultOf (F.Bad at kind) c = c ≡ Bad at kind
IsFaultOf F.Memory c = Unit {0}

-- a refusal as the fault of a node
abbrev pub fault_at : ℕ → Refusal → TypeFault
fault_at at (R.Kind kind) = F.Bad (saturated at) kind
fault_at at R.Memory = F.Memory

-- of a rule, seen by what its values stand for
abbrev pub RulesAs : {T A : Type 0} → (T → A) → Result T Refusal → Ruling A → Type 0
RulesAs view (Ok v) r = r ≡ Ruled (view v)
RulesAs view (Err e) r = IsRefusalOf e r

-- of a judgement, with the scope behind the node
abbrev pub Answers : {T A : Type 0} → (T → A) → Scope → Result T TypeFault → Checked (A × Scope) → Type 0
Answers view s (Ok v) c = c ≡ Good (view v, s)
Answers view s (Err e) c = IsFaultOf e c
