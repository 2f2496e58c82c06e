-- The same comes of this place as of the first one.
use Rattle.std.proofs.Common.{map, string_bytes}
use Rattle.monad_lang.specs.declared.program.Mon.{size-Mon}
use Rattle.monad_lang.specs.CodeProgram.{mon_of}
use Rattle.polish.specs.Followed.{LeadsOn}
use Rattle.polish.proofs.following.to_bottom.Given as goal

abbrev pub invariant-turns : goal.invariant-turns
invariant-turns l = LeadsOn l.unit l.scope (map string_bytes l.it.names.now) (mon_of l.it.last.now) l.initial.here l.here

abbrev pub decreases-turns : goal.decreases-turns
decreases-turns l = size-Mon l.here.first.now
