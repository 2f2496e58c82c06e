-- A command of which all but the last part is copied.
use Rattle.std.specs.Prelude.{ℕ, ◌<◌}
use Rattle.simpl_lang.specs.declared.command.Simpl.{size-Simpl}
use Rattle.simpl_lang.specs.declared.copies.Peel as P
use Rattle.simpl_lang.specs.Command.{Simpl}
use Rattle.simpl_lang.specs.CodeCommand.{simpl_of}
use Rattle.simpl_lang.specs.CodeFront.{with_front}

abbrev pub peeled_in : P.Peel → Simpl
peeled_in (P.TheVariants.Ended c) = simpl_of c.value
peeled_in (P.TheVariants.Last front last) = with_front front (simpl_of last.now)

abbrev pub LastIsSmaller : P.Peel → ℕ → Type 0
LastIsSmaller (P.TheVariants.Ended c) n = Unit {0}
LastIsSmaller (P.TheVariants.Last front last) n = size-Simpl last.now < n
