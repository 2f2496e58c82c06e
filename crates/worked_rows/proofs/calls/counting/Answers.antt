use Rattle.std.proofs.Common.{refl}
use Rattle.std.specs.Fmt.{digits}
use Rattle.worked_rows.proofs.Computed
use Rattle.worked_rows.proofs.calls.counting.Goals as goal

pub returns : goal.returns
unfolding digits
returns c = record {
  counts = Computed.leaves _ _ _ _ _ refl refl refl refl refl refl;
  keeps_second = Computed.leaves _ _ _ _ _ refl refl refl refl refl refl;
  watched = Computed.undefined _ _ _ refl refl;
  at_four_turns = Computed.returns _ _ _ refl refl refl refl;
  at_four_turns_watched = Computed.returns _ _ _ refl refl refl refl;
  at_three_turns = Computed.stops _ _ _ refl refl;
}
