-- What is made so far, and the flags of the locals that are left, are the row.
use Rattle.std.proofs.Common.{◌≡◌, ◌++◌, length}
use Rattle.local_lift.specs.CodeRows.{marks}
use Rattle.local_lift.proofs.rows.row_of.Given as goal

abbrev pub invariant-along : goal.invariant-along
invariant-along g l = l.flags.items ++ marks (g.T.NameTest.holds l.test) l.rest ≡ marks (g.T.NameTest.holds l.test) l.locals

abbrev pub decreases-along : goal.decreases-along
decreases-along g l = length l.rest
