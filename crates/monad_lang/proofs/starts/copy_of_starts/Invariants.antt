-- What is copied so far.
use Rattle.std.proofs.Common.{◌≡◌, map, take}
use Rattle.monad_lang.specs.CodeProgram.{start_of}
use Rattle.monad_lang.proofs.starts.copy_of_starts.Given as goal

abbrev pub invariant-loop-start : goal.invariant-loop-start
invariant-loop-start l = map start_of l.copies.items ≡ map start_of (take l.start-index l.starts)
