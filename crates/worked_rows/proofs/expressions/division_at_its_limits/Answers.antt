use Rattle.std.proofs.Common.{refl}
use Rattle.worked_rows.proofs.expressions.division_at_its_limits.Goals as goal

pub returns : goal.returns
returns c = record {
  least_by_minus_one = record { in_c = refl; guard_fails = refl };
  least_modulo_minus_one = record { in_c = refl; guard_fails = refl };
  least_by_one = record { in_c = refl; no_guard_fails = refl; generated = refl };
  wide_least_by_minus_one = record { in_c = refl; guard_fails = refl };
  by_zero = record { in_c = refl; guard_fails = refl };
  unsigned_modulo_zero = record { in_c = refl; guard_fails = refl };
  negative_quotient = record { in_c = refl; no_guard_fails = refl; generated = refl };
  by_negative = record { in_c = refl; no_guard_fails = refl; generated = refl };
  negative_remainder = record { in_c = refl; no_guard_fails = refl; generated = refl };
  remainder_by_negative = record { in_c = refl; no_guard_fails = refl; generated = refl };
  unsigned_quotient = record { in_c = refl; no_guard_fails = refl; generated = refl };
}
