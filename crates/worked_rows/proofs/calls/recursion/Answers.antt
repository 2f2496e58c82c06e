use Rattle.std.proofs.Common.{refl}
use Rattle.std.specs.Fmt.{digits}
use Rattle.worked_rows.proofs.Computed
use Rattle.worked_rows.proofs.calls.recursion.Goals as goal

pub returns : goal.returns
unfolding digits
returns c = record {
  without_turns = Computed.stops _ _ _ refl refl;
  without_depth = Computed.stops _ _ _ refl refl;
  without_either = Computed.stops _ _ _ refl refl;
  of_zero = Computed.returns _ _ _ refl refl refl refl;
  of_three = Computed.returns _ _ _ refl refl refl refl;
  too_deep = Computed.stops _ _ _ refl refl;
  out_of_turns = Computed.stops _ _ _ refl refl;
  at_the_limit = Computed.returns_in_c _ _ _ refl refl;
  past_the_limit = Computed.stops_in_c _ _ _ refl;
}
