use Rattle.std.proofs.Common.{refl}
use Rattle.worked_rows.proofs.expressions.conversions.Goals as goal

pub returns : goal.returns
returns c = record {
  schar_to_uchar = record { in_c = refl; no_guard_fails = refl; generated = refl };
  schar_to_short = record { in_c = refl; no_guard_fails = refl; generated = refl };
  schar_to_uint = record { in_c = refl; no_guard_fails = refl; generated = refl };
  schar_to_ullong = record { in_c = refl; no_guard_fails = refl; generated = refl };
  uchar_to_schar = record { in_c = refl; no_guard_fails = refl; generated = refl };
  uchar_to_int = record { in_c = refl; no_guard_fails = refl; generated = refl };
  char_is_unsigned = record { in_c = refl; no_guard_fails = refl; generated = refl };
  short_to_ushort = record { in_c = refl; no_guard_fails = refl; generated = refl };
  short_to_char = record { in_c = refl; no_guard_fails = refl; generated = refl };
  ushort_to_short = record { in_c = refl; no_guard_fails = refl; generated = refl };
  ushort_to_llong = record { in_c = refl; no_guard_fails = refl; generated = refl };
  int_to_uchar = record { in_c = refl; no_guard_fails = refl; generated = refl };
  int_to_short = record { in_c = refl; no_guard_fails = refl; generated = refl };
  int_to_ullong = record { in_c = refl; no_guard_fails = refl; generated = refl };
  uint_to_int = record { in_c = refl; no_guard_fails = refl; generated = refl };
  uint_to_llong = record { in_c = refl; no_guard_fails = refl; generated = refl };
  llong_to_uint = record { in_c = refl; no_guard_fails = refl; generated = refl };
  llong_to_schar = record { in_c = refl; no_guard_fails = refl; generated = refl };
  ullong_to_llong = record { in_c = refl; no_guard_fails = refl; generated = refl };
  ullong_to_ushort = record { in_c = refl; no_guard_fails = refl; generated = refl };
  int_to_ulong = record { in_c = refl; no_guard_fails = refl; generated = refl };
  int_to_wide_ulong = record { in_c = refl; no_guard_fails = refl; generated = refl };
  wide_long_to_int = record { in_c = refl; no_guard_fails = refl; generated = refl };
}
