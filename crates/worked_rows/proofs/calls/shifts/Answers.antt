use Rattle.std.proofs.Common.{refl}
use Rattle.worked_rows.proofs.Computed
use Rattle.worked_rows.proofs.calls.shifts.Goals as goal

pub returns : goal.returns
returns c = record {
  signed_left = Computed.undefined _ _ _ refl refl;
  signed_left_fits = Computed.returns _ _ _ refl refl refl refl;
  negative_left = Computed.undefined _ _ _ refl refl;
  unsigned_left = Computed.returns _ _ _ refl refl refl refl;
  unsigned_left_wraps = Computed.returns _ _ _ refl refl refl refl;
  by_width = Computed.undefined _ _ _ refl refl;
  by_negative = Computed.undefined _ _ _ refl refl;
  right_of_negative = Computed.returns _ _ _ refl refl refl refl;
  right_by_width_less_one = Computed.returns _ _ _ refl refl refl refl;
  right_by_width = Computed.undefined _ _ _ refl refl;
}
