-- What is made so far, and what is left, are all.
use Rattle.std.proofs.Common.{◌≡◌, ◌++◌, length, map, string_bytes}
use Rattle.monad_lang.specs.CodeProgram.{start_of}
use Rattle.rule_local.specs.Table.{as_starts}
use Rattle.local_lift.proofs.lists.starts.Given as goal

abbrev pub invariant-along : goal.invariant-along
invariant-along l = map start_of l.starts.items ++ as_starts (map string_bytes l.rest) ≡ as_starts (map string_bytes l.names)

abbrev pub decreases-along : goal.decreases-along
decreases-along l = length l.rest
