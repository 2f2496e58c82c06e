-- A program of which all but the last part is copied.
use Rattle.std.specs.Prelude.{ℕ, ◌<◌}
use Rattle.monad_lang.specs.declared.program.Mon.{size-Mon}
use Rattle.monad_lang.specs.declared.copies.Peel as P
use Rattle.monad_lang.specs.Program.{Mon}
use Rattle.monad_lang.specs.CodeProgram.{mon_of}
use Rattle.monad_lang.specs.CodeFront.{with_front}

abbrev pub peeled_in : P.Peel → Mon
peeled_in (P.TheVariants.Ended m) = mon_of m.value
peeled_in (P.TheVariants.Last front last) = with_front front (mon_of last.now)

abbrev pub LastIsSmaller : P.Peel → ℕ → Type 0
LastIsSmaller (P.TheVariants.Ended m) n = Unit {0}
LastIsSmaller (P.TheVariants.Last front last) n = size-Mon last.now < n
