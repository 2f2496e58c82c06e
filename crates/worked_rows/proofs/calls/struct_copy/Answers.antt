use Rattle.std.proofs.Common.{refl}
use Rattle.worked_rows.proofs.Computed
use Rattle.worked_rows.proofs.calls.struct_copy.Goals as goal

pub returns : goal.returns
returns c = record {
  bytes = Computed.leaves _ _ _ _ _ refl refl refl refl refl refl;
  source = Computed.holds _ _ _ _ _ refl refl refl refl;
  target = Computed.holds _ _ _ _ _ refl refl refl refl;
  by_a_caller = Computed.leaves _ _ _ _ _ refl refl refl refl refl refl;
  by_a_caller_watched = Computed.leaves _ _ _ _ _ refl refl refl refl refl refl;
}
