-- What holds whichever way tests and options go. The facts are records, so that what they are about can be read off them.
use Rattle.std.proofs.Common.{◌≡◌, Bool, true, false, if◌then◌else◌, Option, Some, None, IfSome, refl}
use Rattle.std.specs.Option.{option_map, option_map_or, option_or, option_and_then}

pub record Holds {A : Type 0} (P : A → Type 0) (a : A) : Type 0 where
  pub holds : P a

pub record Each {A : Type 0} (o : Option A) (P : A → Type 0) : Type 0 where
  pub given : IfSome o P

pub cond_holds : {A : Type 0} {P : A → Type 0} {b : Bool} {x y : A} → (b ≡ true → Holds P x) → (b ≡ false → Holds P y) → Holds P (if b then x else y)
cond_holds {b = true} h k = h refl
cond_holds {b = false} h k = k refl

pub option_holds : {A B : Type 0} {P : B → Type 0} (f : A → B) {o : Option A} {d : B} → Each o (λ a. P (f a)) → (o ≡ None → Holds P d) → Holds P (option_map_or f o d)
option_holds f {o = Some a} h k = record { holds = h.given }
option_holds f {o = None} h k = k refl

pub always : {A : Type 0} (o : Option A) (P : A → Type 0) → ((a : A) → P a) → Each o P
always (Some a) P h = record { given = h a }
always None P h = record { given = tt }

pub each_none : {A : Type 0} {P : A → Type 0} → Each None P
each_none = record { given = tt }

pub each_cond : {A : Type 0} {P : A → Type 0} {b : Bool} {x y : Option A} → (b ≡ true → Each x P) → (b ≡ false → Each y P) → Each (if b then x else y) P
each_cond {b = true} h k = h refl
each_cond {b = false} h k = k refl

pub each_map : {A B : Type 0} (f : A → B) (P : B → Type 0) (o : Option A) → Each o (λ a. P (f a)) → Each (option_map f o) P
each_map f P (Some a) h = record { given = h.given }
each_map f P None h = record { given = tt }

pub weaker : {A : Type 0} {P : A → Type 0} (Q : A → Type 0) (o : Option A) → ((a : A) → P a → Q a) → Each o P → Each o Q
weaker Q (Some a) h k = record { given = h a k.given }
weaker Q None h k = record { given = tt }

pub each_or : {A : Type 0} {P : A → Type 0} {o x : Option A} → Each o P → Each x P → Each (option_or o x) P
each_or {o = Some a} h k = h
each_or {o = None} h k = k

pub each_then : {A B : Type 0} {f : A → Option B} {P : B → Type 0} (o : Option A) → ((a : A) → o ≡ Some a → Each (f a) P) → Each (option_and_then f o) P
each_then (Some a) h = h a refl
each_then None h = record { given = tt }
