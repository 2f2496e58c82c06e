use Rattle.std.proofs.Common.{refl}
use Rattle.worked_rows.proofs.expressions.evaluation_order.Goals as goal

pub returns : goal.returns
returns c = record {
  false_and = record { in_c = refl; no_guard_fails = refl; generated = refl };
  true_and = record { in_c = refl; guard_fails = refl };
  both = record { in_c = refl; no_guard_fails = refl; generated = refl };
  undefined_and = record { in_c = refl; guard_fails = refl };
  true_or = record { in_c = refl; no_guard_fails = refl; generated = refl };
  false_or = record { in_c = refl; guard_fails = refl };
  first_branch = record { in_c = refl; no_guard_fails = refl; generated = refl };
  second_branch = record { in_c = refl; no_guard_fails = refl; generated = refl };
  taken_branch = record { in_c = refl; guard_fails = refl };
  left_first = record { in_c = refl; guard_fails = refl };
  right_second = record { in_c = refl; guard_fails = refl };
  operand_before_operation = record { in_c = refl; guard_fails = refl };
  signed_comparison = record { in_c = refl; no_guard_fails = refl; generated = refl };
  unsigned_comparison = record { in_c = refl; no_guard_fails = refl; generated = refl };
  greater_or_equal = record { in_c = refl; no_guard_fails = refl; generated = refl };
}
