-- What is left gives what the whole does.
use Rattle.std.proofs.Common.{◌≡◌, ◌≤◌}
use Rattle.monad_lang.specs.declared.program.Mon.{size-Mon}
use Rattle.monad_lang.specs.CodeProgram.{mon_of}
use Rattle.monad_lang.specs.Sorted as S
use Rattle.given_scalars.specs.CodeScalars.{setting_around, setting_within}
use Rattle.given_scalars.proofs.sorted.+sorted.Given as goal

abbrev pub invariant-scalars_around-along : goal.invariant-scalars_around-along
invariant-scalars_around-along g l = record {
  same : S.scalars_given (setting_within g.N.Scope.scalars l.names l.bound.items l.unit) (mon_of l.rest) ≡ S.scalars_given (setting_around g.N.Scope.scalars l.names l.unit) (mon_of l.m);
  smaller : size-Mon l.rest ≤ size-Mon l.m;
}

abbrev pub decreases-scalars_around-along : goal.decreases-scalars_around-along
decreases-scalars_around-along g l = size-Mon l.rest
