-- A program of which all but the last part is made, given what becomes of that.
use Rattle.std.specs.Prelude.{◌<◌, ℕ}
use Rattle.monad_lang.specs.declared.program.Mon.{size-Mon}
use Rattle.monad_lang.specs.Program.{Mon}
use Rattle.monad_lang.specs.CodeProgram.{mon_of}
use Rattle.monad_lang.specs.CodeFront.{with_front}
use Rattle.value_putting.specs.declared.programs.Opening as O

abbrev pub becomes : (Mon → Mon) → O.Opening → Mon
becomes k (O.TheVariants.Whole m) = mon_of m.value
becomes k (O.TheVariants.Bound front last) = with_front front (mon_of last.now)
becomes k (O.TheVariants.Last front last) = with_front front (k (mon_of last.now))

abbrev pub LastIsSmaller : O.Opening → ℕ → Type 0
LastIsSmaller (O.TheVariants.Whole m) n = Unit {0}
LastIsSmaller (O.TheVariants.Bound front last) n = Unit {0}
LastIsSmaller (O.TheVariants.Last front last) n = size-Mon last.now < n
