-- What a look at two programs says of them.
use Rattle.std.specs.Prelude.{◌≡◌, ◌≢◌, ◌↔◌, ℕ, ◌<◌}
use Rattle.monad_lang.specs.declared.program.Mon.{size-Mon}
use Rattle.monad_lang.specs.declared.comparison.Compared as C
use Rattle.monad_lang.specs.Program.{Mon}
use Rattle.monad_lang.specs.CodeProgram.{mon_of}

abbrev pub Says : C.Compared → Mon → Mon → Type 0
Says C.TheVariants.Differ a b = a ≢ b
Says C.TheVariants.Same a b = a ≡ b
Says (C.TheVariants.AsLast x y) a b = (mon_of x.now ≡ mon_of y.now) ↔ (a ≡ b)

abbrev pub LastIsSmaller : C.Compared → ℕ → Type 0
LastIsSmaller C.TheVariants.Differ n = Unit {0}
LastIsSmaller C.TheVariants.Same n = Unit {0}
LastIsSmaller (C.TheVariants.AsLast x y) n = size-Mon x.now < n
