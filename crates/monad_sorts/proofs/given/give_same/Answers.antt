-- The second is well-sorted.
use Rattle.monad_lang.specs.CodeProgram.{mon_of}
use Rattle.monad_sorts.specs.CodeInside.{setting_in, scalars_in}
use Rattle.monad_sorts.proofs.SameGiven.{sorted_gives}
use Rattle.monad_sorts.proofs.given.give_same.Goals as goal

pub gives_as-requires : goal.gives_as-requires
gives_as-requires c =
    sorted_gives (setting_in c.args.setting (scalars_in c.args.inside.now)) (mon_of c.args.other.now) c.is_sorted.result
    c.is_sorted.ensures c.if-is_sorted.true
