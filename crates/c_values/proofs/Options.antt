-- What equal options say.
use Rattle.std.proofs.Common.{◌≡◌, Option, Some, None}

pub some_is : {A : Type 0} {a b : A} → ◌≡◌ {A = Option A} (Some a) (Some b) → a ≡ b
some_is h = cc

pub none_is : {A : Type 0} {P : Type 0} {a : A} → ◌≡◌ {A = Option A} None (Some a) → P
none_is h = cc

pub none_some : {A : Type 0} {a : A} → ◌≡◌ {A = Option A} None (Some a) → ⊥
none_some h = cc
