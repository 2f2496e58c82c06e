use Rattle.std.proofs.Common.{refl}
use Rattle.std.specs.Fmt.{digits}
use Rattle.worked_rows.proofs.Computed
use Rattle.worked_rows.proofs.calls.cast_on_bytes.Goals as goal

pub returns : goal.returns
unfolding digits
returns c = record {
  of_42 = Computed.leaves _ _ _ _ _ refl refl refl refl refl refl;
}
