-- What judgements of the checker that declare no variables give: from a scope that fits, one that fits and is later, and what
-- is well-typed in each whole that has it.
use Rattle.std.proofs.Common.{◌≡◌, ℕ, refl, ◌∙◌}
use Rattle.c_lang.specs.WellTyped as W
use Rattle.typing_rules.specs.declared.fault.TypeKind.{TypeKind}
use Rattle.typing_rules.specs.Scope.{Scope}
use Rattle.typing_rules.specs.Progress.{Progress}
use Rattle.typing_rules.specs.Checked.{Checked, Good, Bad, Judgement, then, Ruling, Ruled, Refused, ruled}
use Rattle.typing_laws.proofs.Rulings.{Rules, rules_value}
use Rattle.typing_laws.proofs.Scopes.{Variables, Fits}
use Rattle.typing_laws.proofs.Later.{IsLater, later_itself, later_twice, IsWithin}

-- no variable more
pub record IsStill (p q : Progress) : Type 0 where
  pub declared : q.declared ≡ p.declared
  pub locals : q.locals ≡ p.locals

pub still_itself : (p : Progress) → IsStill p p
still_itself p = record { declared = refl; locals = refl }

pub still_twice : {p q r : Progress} → IsStill p q → IsStill q r → IsStill p r
still_twice h k = record { declared = k.declared ∙ h.declared; locals = k.locals ∙ h.locals }

-- what holds of the whole and what was typed
abbrev pub Fact : Type 0 → Type 1
Fact A = W.Scope → A → Type 0

pub record IsStep {A : Type 0} (V : Variables) (T : Fact A) (s : Scope) (a : A) (t : Scope) : Type 0 where
  pub later : IsLater s t
  pub still : IsStill s.progress t.progress
  pub fits : Fits V t
  pub typed : (g : W.Scope) → IsWithin V t g → T g a

pub data Reaches {A : Type 0} (V : Variables) (T : Fact A) (s : Scope) : Checked (A × Scope) → Type 0 where
  good : (p : A × Scope) → IsStep V T s p.0 p.1 → Reaches V T s (Good p)
  bad : {at : ℕ} {kind : TypeKind} → Reaches V T s (Bad at kind)

abbrev pub Judges : {A : Type 0} → Variables → Fact A → Judgement A → Type 0
Judges V T j = (s : Scope) → Fits V s → Reaches V T s (j s)

-- nothing is claimed of what was typed
abbrev pub Anything : {A : Type 0} → Fact A
Anything g a = Unit {0}

pub reached_later : {A : Type 0} {V : Variables} {T : Fact A} {s t : Scope} (c : Checked (A × Scope)) → IsLater s t → IsStill s.progress t.progress → Reaches V T t c → Reaches V T s c
reached_later {s} {t} _ h k (good p r) = good p (record { later = later_twice s t p.1 h r.later; still = still_twice k r.still; fits = r.fits; typed = r.typed })
reached_later _ h k bad = bad

pub reach_then : {A B : Type 0} {V : Variables} {T : Fact A} {U : Fact B} {s : Scope} (c : Checked (A × Scope)) (f : A → Judgement B) → Reaches V T s c →
    ((a : A) (t : Scope) → IsStep V T s a t → Reaches V U t (f a t)) → Reaches V U s (then c f)
reach_then _ f (good p r) k = reached_later (f p.0 p.1) r.later r.still (k p.0 p.1 r)
reach_then _ f bad k = bad

pub reach_pure : {A : Type 0} {V : Variables} {T : Fact A} (s : Scope) (a : A) → Fits V s → ((g : W.Scope) → IsWithin V s g → T g a) → Reaches V T s (Good (a, s))
reach_pure s a h k = good (a, s) (record { later = later_itself s; still = still_itself s.progress; fits = h; typed = k })

pub reach_rule : {A : Type 0} {V : Variables} {T : Fact A} (at : ℕ) (s : Scope) (r : Ruling A) → Fits V s → ((g : W.Scope) → IsWithin V s g → Rules (T g) r) → Reaches V T s (ruled at s r)
reach_rule at s (Ruled a) h k = reach_pure s a h (λ g w. rules_value (k g w))
reach_rule at s (Refused kind) h k = bad

-- a rule of whose outcome nothing is claimed
pub reach_any_rule : {A : Type 0} {V : Variables} (at : ℕ) (s : Scope) (r : Ruling A) → Fits V s → Reaches V Anything s (ruled at s r)
reach_any_rule at s (Ruled a) h = reach_pure s a h (λ g w. tt)
reach_any_rule at s (Refused kind) h = bad
