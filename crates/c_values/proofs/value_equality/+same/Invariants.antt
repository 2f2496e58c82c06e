-- What is left of both is the same where they are, and is less of the first.
use Rattle.std.proofs.Common.{◌≡◌, ◌+◌, ◌*◌, ◌≤◌, drop}
use Rattle.c_values.specs.Value.{same_value, same_values}
use Rattle.c_values.specs.CodeValue.{value_of}
use Rattle.c_values.specs.CodeParts.{values_in, rank, ranks}
use Rattle.c_values.proofs.value_equality.+same.Given as goal

abbrev pub decreases-same_value : goal.decreases-same_value
decreases-same_value l = 3 * rank (value_of l.a.now) + 2

abbrev pub decreases-compared : goal.decreases-compared
decreases-compared l = 3 * rank (value_of l.a.now) + 1

abbrev pub decreases-compared_parts : goal.decreases-compared_parts
decreases-compared_parts l = 3 * ranks (values_in l.xs.now) + 3

abbrev pub invariant-same_value-last : goal.invariant-same_value-last
invariant-same_value-last l = record {
  less : rank (value_of l.left) ≤ rank (value_of l.fn.a);
  same : same_value (value_of l.left) (value_of l.right) ≡ same_value (value_of l.fn.a) (value_of l.fn.b);
}

abbrev pub decreases-same_value-last : goal.decreases-same_value-last
decreases-same_value-last l = rank (value_of l.left)

abbrev pub invariant-compared_parts-front : goal.invariant-compared_parts-front
invariant-compared_parts-front l = same_values (values_in (drop l.k l.xs)) (values_in (drop l.k l.ys)) ≡ same_values (values_in l.xs) (values_in l.ys)
