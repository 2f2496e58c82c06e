use Rattle.std.proofs.lemmas.Result.{err_from_is_err_and}
use Rattle.c_values.proofs.layouts.Layout.build.Goals as goal

pub returns-in_err-table-clause-large : goal.returns-in_err-table-clause-large
returns-in_err-table-clause-large c k e =
    let p = err_from_is_err_and c.from_residual.result c.from_residual.ensures.1 in
    rw c.deref.ensures.value at (c.in_err-table.ensures.large k (cc (p.1, p.2, e)))
