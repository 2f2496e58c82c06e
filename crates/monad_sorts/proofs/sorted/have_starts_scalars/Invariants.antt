-- Those so far have scalars.
use Rattle.std.proofs.Common.{◌≡◌, map, drop}
use Rattle.monad_lang.specs.CodeProgram.{start_of}
use Rattle.monad_sorts.specs.CodeSorted.{starts_scalars}
use Rattle.monad_sorts.specs.CodeInside.{setting_in, scalars_in}
use Rattle.monad_sorts.proofs.sorted.have_starts_scalars.Given as goal

abbrev pub invariant-starts : goal.invariant-starts
invariant-starts l =
    starts_scalars (setting_in l.setting (scalars_in l.inside)).scope (map start_of (drop l.start-index l.starts))
    ≡ starts_scalars (setting_in l.setting (scalars_in l.inside)).scope (map start_of l.starts)
