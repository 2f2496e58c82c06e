-- Those that are listed before those that are left are those of all.
use Rattle.std.proofs.Common.{◌≡◌, length, map}
use Rattle.monad_lang.specs.CodeProgram.{start_of}
use Rattle.monad_lang.specs.Sorted as S
use Rattle.given_scalars.specs.CodeScalars.{scalars_before}
use Rattle.given_scalars.specs.CodeScalars.{scalars_in, setting_around}
use Rattle.given_scalars.proofs.sorted.start_scalars.Given as goal

abbrev pub invariant-along : goal.invariant-along
invariant-along g l = scalars_before (scalars_in l.scalars) (S.start_scalars (setting_around g.N.Scope.scalars l.names l.unit).scope (map start_of l.rest)) ≡ S.start_scalars (setting_around g.N.Scope.scalars l.names l.unit).scope (map start_of l.starts)

abbrev pub decreases-along : goal.decreases-along
decreases-along g l = length l.rest
