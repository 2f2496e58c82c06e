-- What is told of an accepted certificate, and of a text that is turned away.
use Rattle.std.proofs.Common.{subst}
use Rattle.c_values.specs.CodeTypes as types
use Rattle.c_lang.specs.CodeTyped.{unit_of}
use Rattle.checking.proofs.Certified.{told_accepted, turned_away}
use Rattle.checking.specs.CodeJudged.{IsJudged}
use Rattle.checking.proofs.Results.{of_both}
use Rattle.checking.proofs.verdicts.checked.Goals as goal

pub returns-in-Ok : goal.returns-in-Ok
returns-in-Ok g c =
    of_both c.accepted.result _ _ _
    (λ a status lines. told_accepted (types.target_of c.args.target) (unit_of c.args.unit.now) c.args.text.now c.in-Ok.found a.status a.lines.items
    c.requires.typed (subst (IsJudged (types.target_of c.args.target) c.args.text.now (unit_of c.args.unit.now)) c.in-Ok.is c.in_ok-found.ensures.judged) status lines)
    c.accepted.ensures.status c.accepted.ensures.lines

pub returns-in-Err : goal.returns-in-Err
returns-in-Err g c =
    turned_away (types.target_of c.args.target) (unit_of c.args.unit.now) c.args.text.now c.in-Err.answer.status c.in-Err.answer.lines.items
    (subst (IsJudged (types.target_of c.args.target) c.args.text.now (unit_of c.args.unit.now)) c.in-Err.is c.in_ok-found.ensures.judged)
