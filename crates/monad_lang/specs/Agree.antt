-- What is the same for the names that pass a test.
use Rattle.std.specs.Prelude.{◌≡◌, Bool, true}
use Rattle.c_values.specs.Name.{Name}

abbrev pub AgreeOn : {A : Type 0} → (Name → Bool) → (Name → A) → (Name → A) → Type 0
AgreeOn test f g = (y : Name) → test y ≡ true → f y ≡ g y
