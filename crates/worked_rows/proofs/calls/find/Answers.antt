use Rattle.std.proofs.Common.{refl}
use Rattle.worked_rows.proofs.Computed
use Rattle.worked_rows.proofs.calls.find.Goals as goal

pub returns : goal.returns
returns c = record {
  without_turns = Computed.stops _ _ _ refl refl;
  without_turns_watched = Computed.stops _ _ _ refl refl;
  at_one_turn = Computed.stops _ _ _ refl refl;
  at_one_turn_watched = Computed.stops _ _ _ refl refl;
  at_two_turns = Computed.returns _ _ _ refl refl refl refl;
  at_two_turns_watched = Computed.returns _ _ _ refl refl refl refl;
  not_there = Computed.returns _ _ _ refl refl refl refl;
}
