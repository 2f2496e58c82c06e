-- What is copied so far, and what is left, are all.
use Rattle.std.proofs.Common.{◌≡◌, ◌++◌, map, length}
use Rattle.monad_lang.specs.CodeProgram.{start_of}
use Rattle.polish.proofs.branches.copy_of_starts.Given as goal

abbrev pub invariant-along : goal.invariant-along
invariant-along l = map start_of l.copies.items ++ map start_of l.rest ≡ map start_of l.starts

abbrev pub decreases-along : goal.decreases-along
decreases-along l = length l.rest
