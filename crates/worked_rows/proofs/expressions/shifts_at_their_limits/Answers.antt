use Rattle.std.proofs.Common.{refl}
use Rattle.worked_rows.proofs.expressions.shifts_at_their_limits.Goals as goal

pub returns : goal.returns
returns c = record {
  left_by_width_less_one = record { in_c = refl; no_guard_fails = refl; generated = refl };
  left_by_width = record { in_c = refl; guard_fails = refl };
  left_by_negative = record { in_c = refl; guard_fails = refl };
  left_wraps = record { in_c = refl; no_guard_fails = refl; generated = refl };
  left_wraps_at_numbers = record { in_c = refl; no_guard_fails = refl; generated = refl };
  signed_left_fits = record { in_c = refl; no_guard_fails = refl; generated = refl };
  signed_left_does_not_fit = record { in_c = refl; guard_fails = refl };
  negative_left = record { in_c = refl; guard_fails = refl };
  zero_left = record { in_c = refl; no_guard_fails = refl; generated = refl };
  wide_left = record { in_c = refl; no_guard_fails = refl; generated = refl };
  wide_left_does_not_fit = record { in_c = refl; guard_fails = refl };
  right_by_width_less_one = record { in_c = refl; no_guard_fails = refl; generated = refl };
  right_by_width = record { in_c = refl; guard_fails = refl };
  right_by_negative = record { in_c = refl; guard_fails = refl };
  negative_right = record { in_c = refl; no_guard_fails = refl; generated = refl };
  least_right = record { in_c = refl; no_guard_fails = refl; generated = refl };
}
