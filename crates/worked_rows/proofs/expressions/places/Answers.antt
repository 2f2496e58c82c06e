use Rattle.std.proofs.Common.{refl}
use Rattle.worked_rows.proofs.expressions.places.Goals as goal

pub returns : goal.returns
returns c = record {
  member = record { in_c = refl; no_guard_fails = refl; generated = refl };
  last_element = record { in_c = refl; no_guard_fails = refl; generated = refl };
  past_the_end = record { in_c = refl; guard_fails = refl };
  before_the_start = record { in_c = refl; guard_fails = refl };
  odd_address = record { in_c = refl; guard_fails = refl };
  half_aligned = record { in_c = refl; guard_fails = refl };
  null = record { in_c = refl; guard_fails = refl };
  bounds_before_pointer = record { in_c = refl; guard_fails = refl };
  pointer_before_tag = record { in_c = refl; guard_fails = refl };
  untagged_at_words = record { in_c = refl; guard_fails = refl };
  untagged_at_numbers = record { in_c = refl; guard_fails = refl };
  ends_with_the_space = record { in_c = refl; no_guard_fails = refl; generated = refl };
  past_the_space = record { in_c = refl; guard_fails = refl };
  back_below_zero = record { in_c = refl; no_guard_fails = refl; generated = refl };
  back_by_negative = record { in_c = refl; no_guard_fails = refl; generated = refl };
  integer_before_pointer = record { in_c = refl; no_guard_fails = refl; generated = refl };
  integer_first = record { in_c = refl; guard_fails = refl };
  pointer_first = record { in_c = refl; guard_fails = refl };
}
