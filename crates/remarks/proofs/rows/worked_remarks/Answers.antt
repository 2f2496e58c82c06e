use Rattle.std.proofs.Common.{refl}
use Rattle.std.specs.Fmt.{digits}
use Rattle.remarks.proofs.rows.worked_remarks.Goals as goal

pub returns-clause-call : goal.returns-clause-call
unfolding digits
returns-clause-call c = refl

pub returns-clause-word : goal.returns-clause-word
unfolding digits
returns-clause-word c = refl
