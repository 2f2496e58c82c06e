-- What is made so far, and what is left, are all.
use Rattle.std.proofs.Common.{◌≡◌, ◌++◌, length, map, string_bytes}
use Rattle.rule_local.specs.CodeRule.{context_of}
use Rattle.local_lift.specs.CodeLists.{begun_in}
use Rattle.local_lift.proofs.translation.begun_names.Given as goal

abbrev pub invariant-along : goal.invariant-along
invariant-along l = map string_bytes l.names.items ++ begun_in (context_of l.context).parameters l.left l.right ≡ begun_in (context_of l.context).parameters l.context.locals.now l.row.flags.items

abbrev pub decreases-along : goal.decreases-along
decreases-along l = length l.left
