-- What is left gives as many values.
use Rattle.std.proofs.Common.{◌≡◌}
use Rattle.monad_lang.specs.declared.program.Mon.{size-Mon}
use Rattle.monad_lang.specs.CodeProgram.{mon_of}
use Rattle.monad_sorts.specs.CodeSorted.{count_of}
use Rattle.monad_sorts.specs.CodeInside.{setting_in, no_names}
use Rattle.monad_sorts.proofs.counts.count_of.Given as goal

abbrev pub invariant-along : goal.invariant-along
invariant-along l =
    count_of (setting_in l.setting no_names).functions (mon_of l.rest)
    ≡ count_of (setting_in l.setting no_names).functions (mon_of l.m)

abbrev pub decreases-along : goal.decreases-along
decreases-along l = size-Mon l.rest
