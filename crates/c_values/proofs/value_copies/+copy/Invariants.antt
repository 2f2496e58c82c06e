-- The fronts put aside, with what is left, are the value. The values so far are copied.
use Rattle.std.proofs.Common.{◌≡◌, ◌+◌, ◌*◌, ◌≤◌, take, vec_len}
use Rattle.c_values.specs.CodeValue.{value_of}
use Rattle.c_values.specs.CodeParts.{values_in, with_fronts, rank, ranks}
use Rattle.c_values.proofs.value_copies.+copy.Given as goal

abbrev pub decreases-copy_of : goal.decreases-copy_of
decreases-copy_of l = 2 * rank (value_of l.value.now)

abbrev pub decreases-copies_of : goal.decreases-copies_of
decreases-copies_of l = 2 * ranks (values_in l.values.now) + 1

abbrev pub invariant-copy_of-down : goal.invariant-copy_of-down
invariant-copy_of-down l = record {
  less : rank (value_of l.inner) ≤ rank (value_of l.fn.value);
  whole : with_fronts l.fronts.items (value_of l.inner) ≡ value_of l.fn.value;
}

abbrev pub decreases-copy_of-down : goal.decreases-copy_of-down
decreases-copy_of-down l = rank (value_of l.inner)

abbrev pub invariant-copy_of-up : goal.invariant-copy_of-up
invariant-copy_of-up l = with_fronts l.fronts.items (value_of l.copy) ≡ value_of l.fn.value

abbrev pub decreases-copy_of-up : goal.decreases-copy_of-up
decreases-copy_of-up l = vec_len l.fronts

abbrev pub invariant-copies_of-loop-value : goal.invariant-copies_of-loop-value
invariant-copies_of-loop-value l = values_in l.copies.items ≡ values_in (take l.value-index l.values)
