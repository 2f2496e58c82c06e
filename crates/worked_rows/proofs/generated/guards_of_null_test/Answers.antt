use Rattle.std.proofs.Common.{refl}
use Rattle.worked_rows.proofs.generated.guards_of_null_test.Goals as goal

pub returns : goal.returns
returns c = record {
  at_numbers = refl;
  at_bytes = refl;
}
