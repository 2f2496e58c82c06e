-- Tests that are made of several, and what is chosen by a test.
use Rattle.std.proofs.Common.{◌≡◌, Bool, true, false, refl}
use Rattle.std.specs.Prelude.{◌&&◌, if◌then◌else◌}
use Rattle.std.proofs.lemmas.Bool.{false≢true}

pub all_of_three : (a b c : Bool) → (a && b && c) ≡ true → (a ≡ true) × (b ≡ true) × (c ≡ true)
all_of_three true true true h = (refl, refl, refl)
all_of_three _ _ _ h = absurd (false≢true h)

pub all_of_four : (a b c d : Bool) → (a && b && c && d) ≡ true → (a ≡ true) × (b ≡ true) × (c ≡ true) × (d ≡ true)
all_of_four true true true true h = (refl, refl, refl, refl)
all_of_four _ _ _ _ h = absurd (false≢true h)

pub all_of_five : (a b c d e : Bool) → (a && b && c && d && e) ≡ true → (a ≡ true) × (b ≡ true) × (c ≡ true) × (d ≡ true) × (e ≡ true)
all_of_five true true true true true h = (refl, refl, refl, refl, refl)
all_of_five _ _ _ _ _ h = absurd (false≢true h)

-- what holds of both choices, each under its test
pub by_test : {A : Type 0} (P : A → Type 0) (b : Bool) (x y : A) → (b ≡ true → P x) → (b ≡ false → P y) → P (if b then x else y)
by_test P true x y h k = h refl
by_test P false x y h k = k refl

pub by_cases : (P : Type 0) (b : Bool) → (b ≡ true → P) → (b ≡ false → P) → P
by_cases P true h k = h refl
by_cases P false h k = k refl

pub where_true : {A : Type 0} (b : Bool) (x y : A) → b ≡ true → (if b then x else y) ≡ x
where_true true x y e = refl
where_true false x y e = absurd (false≢true e)

pub where_false : {A : Type 0} (b : Bool) (x y : A) → b ≡ false → (if b then x else y) ≡ y
where_false true x y e = absurd (let c : ◌≡◌ {A = Bool} true false = e in cc)
where_false false x y e = refl
