-- Those so far are the same.
use Rattle.std.proofs.Common.{◌≡◌, drop}
use Rattle.monad_lang.specs.CodeProgram.{mon_of}
use Rattle.monad_sorts.specs.CodeTold.{values_told}
use Rattle.monad_sorts.specs.CodeSorted.{same_told}
use Rattle.monad_sorts.specs.CodeInside.{setting_in, scalars_in}
use Rattle.monad_sorts.proofs.sorted.same_values.Given as goal

abbrev pub invariant-positions : goal.invariant-positions
invariant-positions l =
    let os = values_told (setting_in l.setting (scalars_in l.inside)) (mon_of l.m) in
    let ps = values_told (setting_in l.setting (scalars_in l.other_inside)) (mon_of l.other) in
    same_told (drop l.k os) (drop l.k ps) ≡ same_told os ps
