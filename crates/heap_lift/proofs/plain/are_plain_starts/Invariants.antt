-- There is something to do in what is left where there is in all.
use Rattle.std.proofs.Common.{◌≡◌, length, map}
use Rattle.monad_lang.specs.CodeProgram.{start_of}
use Rattle.heap_lift.specs.Lifted.{are_plain_starts}
use Rattle.heap_lift.proofs.plain.are_plain_starts.Given as goal

abbrev pub invariant-along : goal.invariant-along
invariant-along l = are_plain_starts (map start_of l.rest) ≡ are_plain_starts (map start_of l.starts)

abbrev pub decreases-along : goal.decreases-along
decreases-along l = length l.rest
