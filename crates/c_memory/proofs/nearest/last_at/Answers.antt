use Rattle.std.proofs.Common.{◌≡◌, ◌≤◌, ℕ, false, arith}
use Rattle.std.proofs.lemmas.Grind.{common_steps}
use Rattle.std.specs.Ordering.{nat_cmp, is_gt, is_lt}
use Rattle.std.proofs.lemmas.Map.Keys.{le_from_not_gt}
use Rattle.c_memory.proofs.nearest.last_at.Goals as goal

within : (q n : ℕ) → q ≤ n → is_gt (nat_cmp q n) ≡ false
within q n h = grind (arith, common_steps)

not_below : (q n : ℕ) → is_lt (nat_cmp n q) ≡ false → q ≤ n
not_below q n h = grind (arith, common_steps)

pub returns-in-Some-clause-some : goal.returns-in-Some-clause-some
returns-in-Some-clause-some c =
    let last = (c.range.ensures.in_range tt).4 _ _ c.in-Some.ensures.steps in
    let here = (c.range.ensures.in_range tt).3 _ _ c.in-Some.ensures.steps in
    let key = c.in-Some.field-0-0.now in
    let n = c.args.number in
    record {
      key = key;
      below = le_from_not_gt key n here.0.1;
      is = here.1;
      last = λ k le some. not_below k key (last k (tt, within k n le) some);
    }
