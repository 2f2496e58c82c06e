use Rattle.std.proofs.Common.{refl}
use Rattle.worked_rows.proofs.Computed
use Rattle.worked_rows.proofs.calls.midpoint.Goals as goal

pub returns : goal.returns
returns c = record {
  wraps = Computed.returns _ _ _ refl refl refl refl;
  watched = Computed.undefined _ _ _ refl refl;
  by_difference = Computed.returns _ _ _ refl refl refl refl;
  by_difference_watched = Computed.returns _ _ _ refl refl refl refl;
}
