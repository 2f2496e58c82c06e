-- A program gives no values where none are counted.
use Rattle.std.proofs.Common.{sym, ◌∙◌}
use Rattle.monad_lang.specs.CodeProgram.{mon_of}
use Rattle.monad_sorts.specs.CodeTold.{values_told}
use Rattle.monad_sorts.specs.CodeInside.{setting_in, scalars_in}
use Rattle.monad_sorts.proofs.SameValues.{none_is}
use Rattle.monad_sorts.proofs.ValuesTold.{count_is}
use Rattle.monad_sorts.proofs.sorted.gives_none.Goals as goal

pub returns : goal.returns
returns c =
    let t = setting_in c.args.setting (scalars_in c.args.inside.now) in
    none_is (values_told t (mon_of c.args.m.now)) c.count_of.result (c.count_of.ensures ∙ sym (count_is (mon_of c.args.m.now) t))
