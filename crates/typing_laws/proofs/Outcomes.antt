-- What a judgement gives, where what holds then names no whole.
use Rattle.std.proofs.Common.{ℕ}
use Rattle.typing_rules.specs.declared.fault.TypeKind.{TypeKind}
use Rattle.typing_rules.specs.Scope.{Scope}
use Rattle.typing_rules.specs.Checked.{Checked, Good, Bad, Judgement, then, Ruling, ruled}
use Rattle.typing_laws.proofs.Rulings.{Rules}
use Rattle.typing_laws.proofs.Rulings as R
use Rattle.typing_laws.proofs.Scopes.{Variables}
use Rattle.typing_laws.proofs.Steps.{Fact, IsStep, Reaches}
use Rattle.typing_laws.proofs.Steps as S

pub data Gives {A : Type 0} (P : A → Scope → Type 0) : Checked (A × Scope) → Type 0 where
  gives : (p : A × Scope) → P p.0 p.1 → Gives P (Good p)
  fails : {at : ℕ} {kind : TypeKind} → Gives P (Bad at kind)

pub gives_then : {A B : Type 0} {P : A → Scope → Type 0} {Q : B → Scope → Type 0} (c : Checked (A × Scope)) (f : A → Judgement B) → Gives P c → ((a : A) (t : Scope) → P a t → Gives Q (f a t)) → Gives Q (then c f)
gives_then _ f (gives p h) k = k p.0 p.1 h
gives_then _ f fails k = fails

pub gives_rule : {A : Type 0} {R : A → Type 0} {P : A → Scope → Type 0} (at : ℕ) (s : Scope) (r : Ruling A) → Rules R r → ((a : A) → R a → P a s) → Gives P (ruled at s r)
gives_rule at s _ (R.ruled {a} h) k = gives (a, s) (k a h)
gives_rule at s _ R.refused k = fails

pub gives_step : {A : Type 0} {V : Variables} {T : Fact A} {s : Scope} (c : Checked (A × Scope)) → Reaches V T s c → Gives (λ a t. IsStep V T s a t) c
gives_step _ (S.good p h) = gives p h
gives_step _ S.bad = fails

pub gives_weaker : {A : Type 0} {P Q : A → Scope → Type 0} (c : Checked (A × Scope)) → Gives P c → ((a : A) (t : Scope) → P a t → Q a t) → Gives Q c
gives_weaker _ (gives p h) k = gives p (k p.0 p.1 h)
gives_weaker _ fails k = fails
