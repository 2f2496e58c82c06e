use Rattle.std.proofs.Common.{refl}
use Rattle.worked_rows.proofs.generated.reasons.Goals as goal

pub returns : goal.returns
returns c = record {
  by_cast = refl;
  by_call = refl;
}
