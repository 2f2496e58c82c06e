-- What is left in first place, behind what was passed, is what the sequence that is turned is made.
use Rattle.std.proofs.Common.{map, string_bytes}
use Rattle.monad_lang.specs.declared.program.Mon.{size-Mon}
use Rattle.monad_lang.specs.CodeProgram.{mon_of}
use Rattle.polish.specs.Followed.{IsTurned}
use Rattle.polish.proofs.turning.turned_down.Given as goal

abbrev pub invariant-down : goal.invariant-down
invariant-down l =
    IsTurned l.unit l.scope (map string_bytes l.names) (mon_of l.rest) (mon_of l.fn.inner.first.now)
    (map string_bytes l.fn.inner.names.now) (mon_of l.fn.inner.last.now) l.down (mon_of l.first)

abbrev pub decreases-down : goal.decreases-down
decreases-down l = size-Mon l.first
