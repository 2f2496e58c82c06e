-- What is made so far, and what is left, are all.
use Rattle.std.proofs.Common.{◌≡◌, ◌++◌, length, map, string_bytes}
use Rattle.local_lift.specs.CodeLists.{carried_in}
use Rattle.local_lift.proofs.lists.carried.Given as goal

abbrev pub invariant-along : goal.invariant-along
invariant-along l = map string_bytes l.names.items ++ carried_in l.left l.middle l.right ≡ carried_in l.locals l.assigned.flags.items l.row.flags.items

abbrev pub decreases-along : goal.decreases-along
decreases-along l = length l.left
