-- A well-formed unit has what its steps need, and the list's answer comes first.
use Rattle.std.proofs.Common.{map, sym}
use Rattle.simpl_lang.specs.CodeCommand.{simpl_unit_of}
use Rattle.acceptance.specs.CodeCertificate.{steps_of}
use Rattle.acceptance.proofs.UnitVerdicts.{unlisted}
use Rattle.acceptance.proofs.WellFormed.{ready_there, results_there}
use Rattle.acceptance.proofs.units.verdict_on.Goals as goal

pub check_each-requires-clause-results : goal.check_each-requires-clause-results
check_each-requires-clause-results c = results_there (simpl_unit_of c.args.u.now) c.requires

pub check_each-requires-clause-ready : goal.check_each-requires-clause-ready
check_each-requires-clause-ready c =
    rw (c.deref-in-Ok.ensures.value, c.deref-in-Ok-2.ensures.value) (ready_there (simpl_unit_of c.args.u.now) c.requires)

pub returns-in-Err : goal.returns-in-Err
returns-in-Err c =
    unlisted (simpl_unit_of c.args.u.now) (map steps_of c.args.certificate.now) c.in-Err.at
    (sym (rw c.deref.ensures.value at c.in-Err.ensures))
