use Rattle.std.proofs.Common.{refl}
use Rattle.worked_rows.proofs.generated.returned_constant.Goals as goal

pub returns : goal.returns
returns c = record {
  body = refl;
  same_at_bytes = refl;
}
