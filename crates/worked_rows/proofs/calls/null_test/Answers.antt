use Rattle.std.proofs.Common.{refl}
use Rattle.worked_rows.proofs.Computed
use Rattle.worked_rows.proofs.calls.null_test.Goals as goal

pub returns : goal.returns
returns c = record {
  of_null = Computed.returns _ _ _ refl refl refl refl;
  untagged = Computed.leaves _ _ _ _ _ refl refl refl refl refl refl;
  untagged_watched = Computed.undefined _ _ _ refl refl;
  tagged = Computed.leaves _ _ _ _ _ refl refl refl refl refl refl;
}
