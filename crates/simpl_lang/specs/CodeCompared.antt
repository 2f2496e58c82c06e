-- What a look at two commands says of them.
use Rattle.std.specs.Prelude.{◌≡◌, ◌≢◌, ◌↔◌, ℕ, ◌<◌}
use Rattle.simpl_lang.specs.declared.command.Simpl.{size-Simpl}
use Rattle.simpl_lang.specs.declared.comparison.Compared as C
use Rattle.simpl_lang.specs.Command.{Simpl}
use Rattle.simpl_lang.specs.CodeCommand.{simpl_of}

abbrev pub Says : C.Compared → Simpl → Simpl → Type 0
Says C.TheVariants.Differ a b = a ≢ b
Says C.TheVariants.Same a b = a ≡ b
Says (C.TheVariants.AsLast x y) a b = (simpl_of x.now ≡ simpl_of y.now) ↔ (a ≡ b)

abbrev pub LastIsSmaller : C.Compared → ℕ → Type 0
LastIsSmaller C.TheVariants.Differ n = Unit {0}
LastIsSmaller C.TheVariants.Same n = Unit {0}
LastIsSmaller (C.TheVariants.AsLast x y) n = size-Simpl x.now < n
