-- Those that are left are distinct where all are.
use Rattle.std.proofs.Common.{◌≡◌, length, map}
use Rattle.c_values.specs.Name.{are_distinct}
use Rattle.monad_lang.specs.CodeProgram.{start_of}
use Rattle.monad_lang.specs.Run.{start_names}
use Rattle.given_scalars.proofs.sorted.are_distinct_starts.Given as goal

abbrev pub invariant-starts : goal.invariant-starts
invariant-starts l = are_distinct (start_names (map start_of l.rest)) ≡ are_distinct (start_names (map start_of l.starts))

abbrev pub decreases-starts : goal.decreases-starts
decreases-starts l = length l.rest
