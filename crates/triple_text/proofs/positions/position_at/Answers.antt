use Rattle.std.proofs.lemmas.Result.{err_from_is_err_and}
use Rattle.ac_sx.specs.CodeSx.{tree_of}
use Rattle.triple_text.proofs.PositionLaws.{number_refused, negative_refused}
use Rattle.triple_text.proofs.positions.position_at.Goals as goal

pub returns-in_err-number : goal.returns-in_err-number
returns-in_err-number c =
    let bad = number_refused c.in_err-number.field-0.0 c.args.at (tree_of c.args.tree.now) c.in_err-number.ensures in
    let p = err_from_is_err_and c.from_residual.result c.from_residual.ensures.1 in
    rw (p.1, p.2) bad

pub returns-then-negative : goal.returns-then-negative
returns-then-negative c = negative_refused c.args.at (tree_of c.args.tree.now) c.in_ok-number.number c.in_ok-number.behind c.negative.result c.in_ok-number.ensures c.negative.ensures c.if-negative.true
