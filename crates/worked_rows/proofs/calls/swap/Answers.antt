use Rattle.std.proofs.Common.{refl}
use Rattle.worked_rows.proofs.Computed
use Rattle.worked_rows.proofs.calls.swap.Goals as goal

pub returns : goal.returns
returns c = record {
  first = Computed.holds _ _ _ _ _ refl refl refl refl;
  second = Computed.holds _ _ _ _ _ refl refl refl refl;
  bytes = Computed.leaves _ _ _ _ _ refl refl refl refl refl refl;
  with_itself = Computed.leaves _ _ _ _ _ refl refl refl refl refl refl;
}
