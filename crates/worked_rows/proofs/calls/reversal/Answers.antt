use Rattle.std.proofs.Common.{refl}
use Rattle.worked_rows.proofs.Computed
use Rattle.worked_rows.proofs.calls.reversal.Goals as goal

pub returns : goal.returns
returns c = record {
  bytes = Computed.leaves _ _ _ _ _ refl refl refl refl refl refl;
  watched = Computed.returns _ _ _ refl refl refl refl;
  first = Computed.holds _ _ _ _ _ refl refl refl refl;
  second = Computed.holds _ _ _ _ _ refl refl refl refl;
}
