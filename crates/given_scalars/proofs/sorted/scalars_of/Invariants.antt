-- Those that are listed before those that are left are those of all.
use Rattle.std.proofs.Common.{◌≡◌, length, map}
use Rattle.expression_lang.specs.CodeExpression.{exp_of}
use Rattle.expression_lang.specs.Sorted as S
use Rattle.given_scalars.specs.CodeScalars.{scalars_before}
use Rattle.given_scalars.specs.CodeScalars.{scalars_in, setting_around}
use Rattle.given_scalars.proofs.sorted.scalars_of.Given as goal

abbrev pub invariant-along : goal.invariant-along
invariant-along g l = scalars_before (scalars_in l.scalars) (S.scalars_of (setting_around g.N.Scope.scalars l.names l.unit).scope (map exp_of l.rest)) ≡ S.scalars_of (setting_around g.N.Scope.scalars l.names l.unit).scope (map exp_of l.exps)

abbrev pub decreases-along : goal.decreases-along
decreases-along g l = length l.rest
