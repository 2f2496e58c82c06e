-- The expression at the position has what is told of it, and there is none past the end.
use Rattle.std.proofs.Common.{sym, ◌∙◌, rules}
use Rattle.monad_sorts.specs.CodeInside.{setting_in}
use Rattle.monad_sorts.proofs.ToldAt.{exp_told, no_exp_told}
use Rattle.monad_sorts.proofs.tell.tell_exp.Goals as goal

pub returns-in-Some : goal.returns-in-Some
returns-in-Some c names =
    c.tell.ensures names
    ∙ sym (exp_told (setting_in c.args.setting names).scope c.args.es.now c.args.position c.in-Some.e.now (search rules)
    (search rules))

pub returns-in-None : goal.returns-in-None
returns-in-None c names = sym (no_exp_told (setting_in c.args.setting names).scope c.args.es.now c.args.position (search rules))
