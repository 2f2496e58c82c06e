use Rattle.std.proofs.Common.{◌+◌, ◌*◌, ◌∙◌, sym, ap, subst, arith}
use Rattle.command_line.specs.Words.{with_digits}
use Rattle.command_line.proofs.Digits.{IsBelow, is_small, greatest, next}
use Rattle.command_line.proofs.counts.number_of.Goals as goal

pub overflow_mul-number : goal.overflow_mul-number
overflow_mul-number c =
    let h = subst (IsBelow c.digits.number) c.in-Some.ensures.cases.0 c.digits.invariant.below in
    omega (arith, is_small _ _ _ h)

pub overflow_add-number : goal.overflow_add-number
overflow_add-number c =
    let h = subst (IsBelow c.digits.number) c.in-Some.ensures.cases.0 c.digits.invariant.below in
    omega (arith, is_small _ _ _ h, greatest _ _ _ h, c.from.ensures)

pub digits-preserved : goal.digits-preserved
digits-preserved c =
    let n = c.digits.number in
    let rest = c.in-Some.others.now in
    let h = subst (IsBelow n) c.in-Some.ensures.cases.0 c.digits.invariant.below in
    record {
      value = ap (λ d. with_digits (n * 10 + d) rest) c.from.ensures ∙ sym (ap (with_digits n) c.in-Some.ensures.cases.0) ∙ c.digits.invariant.value;
      below = subst (λ d. IsBelow (n * 10 + d) rest) (sym c.from.ensures) (next _ _ _ h);
    }
