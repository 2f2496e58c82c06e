use Rattle.std.proofs.Common.{refl}
use Rattle.worked_rows.proofs.expressions.arithmetic_at_its_limits.Goals as goal

pub returns : goal.returns
returns c = record {
  signed_sum = record { in_c = refl; guard_fails = refl };
  signed_sum_fits = record { in_c = refl; no_guard_fails = refl; generated = refl };
  signed_difference = record { in_c = refl; guard_fails = refl };
  signed_product = record { in_c = refl; guard_fails = refl };
  signed_product_fits = record { in_c = refl; no_guard_fails = refl; generated = refl };
  signed_negation = record { in_c = refl; guard_fails = refl };
  wide_sum = record { in_c = refl; guard_fails = refl };
  unsigned_sum = record { in_c = refl; no_guard_fails = refl; generated = refl };
  unsigned_sum_at_words = record { in_c = refl; no_guard_fails = refl; generated = refl };
  unsigned_sum_at_numbers = record { in_c = refl; guard_fails = refl };
  unsigned_difference = record { in_c = refl; no_guard_fails = refl; generated = refl };
  unsigned_difference_at_numbers = record { in_c = refl; guard_fails = refl };
  unsigned_product_at_numbers = record { in_c = refl; guard_fails = refl };
  unsigned_negation = record { in_c = refl; no_guard_fails = refl; generated = refl };
  unsigned_negation_at_numbers = record { in_c = refl; guard_fails = refl };
  negation_of_zero_at_numbers = record { in_c = refl; no_guard_fails = refl; generated = refl };
  signed_sum_at_numbers = record { in_c = refl; guard_fails = refl };
}
