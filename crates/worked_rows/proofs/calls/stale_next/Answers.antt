use Rattle.std.proofs.Common.{refl}
use Rattle.worked_rows.proofs.Computed
use Rattle.worked_rows.proofs.calls.stale_next.Goals as goal

pub returns : goal.returns
returns c = record {
  plainly = Computed.undefined _ _ _ refl refl;
  watched = Computed.undefined _ _ _ refl refl;
}
