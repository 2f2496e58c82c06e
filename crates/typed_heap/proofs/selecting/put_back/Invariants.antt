-- What is still to be put around the value makes the same with it.
use Rattle.std.proofs.Common.{◌≡◌}
use Rattle.c_values.specs.CodeParts.{rank}
use Rattle.c_values.specs.CodeValue.{value_of}
use Rattle.typed_heap.specs.CodeTurned.{turned_back}
use Rattle.typed_heap.proofs.selecting.put_back.Given as goal

abbrev pub invariant-outwards : goal.invariant-outwards
invariant-outwards l = turned_back (value_of l.outer) (value_of l.whole) ≡ turned_back (value_of l.fn.outer) (value_of l.fn.whole)

abbrev pub decreases-outwards : goal.decreases-outwards
decreases-outwards l = rank (value_of l.outer)
