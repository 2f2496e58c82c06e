-- What is made so far, and what is made of what is left, is made of all.
use Rattle.std.proofs.Common.{◌≡◌, ◌++◌, length}
use Rattle.local_lift.specs.CodeRows.{flags_of, each_either}
use Rattle.local_lift.proofs.changes.all_either.Given as goal

abbrev pub invariant-along : goal.invariant-along
invariant-along l = flags_of l.after.items ++ each_either l.left l.right ≡ each_either l.fn.lefts.items l.fn.rights.items

abbrev pub decreases-along : goal.decreases-along
decreases-along l = length l.left
