use Rattle.std.proofs.Common.{refl}
use Rattle.std.specs.Fmt.{digits}
use Rattle.worked_rows.proofs.Computed
use Rattle.worked_rows.proofs.statements.loops.Goals as goal

pub returns : goal.returns
unfolding digits
returns c = record {
  for_with_continue = Computed.returns _ _ _ refl refl refl refl;
  for_out_of_turns = Computed.stops _ _ _ refl refl;
  for_without_turns = Computed.returns _ _ _ refl refl refl refl;
  for_with_break = Computed.returns _ _ _ refl refl refl refl;
  for_with_break_out_of_turns = Computed.stops _ _ _ refl refl;
  do_with_continue = Computed.returns _ _ _ refl refl refl refl;
  do_without_turns = Computed.stops _ _ _ refl refl;
  do_with_break = Computed.returns _ _ _ refl refl refl refl;
  inner_break = Computed.returns _ _ _ refl refl refl refl;
  inner_break_out_of_turns = Computed.stops _ _ _ refl refl;
  break_of_a_switch = Computed.returns _ _ _ refl refl refl refl;
  continue_in_a_switch = Computed.stops _ _ _ refl refl;
  no_turn = Computed.returns _ _ _ refl refl refl refl;
}
