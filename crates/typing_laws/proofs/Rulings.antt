-- What a node's rule gives where it refuses nothing.
use Rattle.std.proofs.Common.{◌≡◌, Bool, true, false, refl}
use Rattle.typing_rules.specs.declared.fault.TypeKind.{TypeKind}
use Rattle.typing_rules.specs.Checked.{Ruling, Ruled, Refused, refuse, ◌>=>◌}

pub data Rules {A : Type 0} (P : A → Type 0) : Ruling A → Type 0 where
  ruled : {a : A} → P a → Rules P (Ruled a)
  refused : {k : TypeKind} → Rules P (Refused k)

pub refused_or : {A : Type 0} {P : A → Type 0} (b : Bool) (k : TypeKind) (r : Ruling A) → (b ≡ false → Rules P r) → Rules P (refuse b k r)
refused_or true k r h = refused
refused_or false k r h = h refl

pub rules_then : {A B : Type 0} {P : A → Type 0} {Q : B → Type 0} (r : Ruling A) (f : A → Ruling B) → Rules P r → ((a : A) → P a → Rules Q (f a)) → Rules Q (r >=> f)
rules_then _ f (ruled {a} h) k = k a h
rules_then _ f refused k = refused

pub rules_weaker : {A : Type 0} {P Q : A → Type 0} (r : Ruling A) → Rules P r → ((a : A) → P a → Q a) → Rules Q r
rules_weaker _ (ruled {a} h) k = ruled (k a h)
rules_weaker _ refused k = refused

pub rules_value : {A : Type 0} {P : A → Type 0} {a : A} → Rules P (Ruled a) → P a
rules_value (ruled h) = h
