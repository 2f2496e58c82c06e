use Rattle.std.proofs.Common.{refl}
use Rattle.worked_rows.proofs.Computed
use Rattle.worked_rows.proofs.calls.global_array.Goals as goal

pub returns : goal.returns
returns c = record {
  last = Computed.returns _ _ _ refl refl refl refl;
  first = Computed.returns _ _ _ refl refl refl refl;
  past_the_end = Computed.undefined _ _ _ refl refl;
  negative = Computed.undefined _ _ _ refl refl;
}
