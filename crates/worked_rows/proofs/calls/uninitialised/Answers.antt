use Rattle.std.proofs.Common.{refl}
use Rattle.worked_rows.proofs.Computed
use Rattle.worked_rows.proofs.calls.uninitialised.Goals as goal

pub returns : goal.returns
returns c = record {
  zero = Computed.returns _ _ _ refl refl refl refl;
  seven = Computed.returns _ _ _ refl refl refl refl;
  modulo_width = Computed.returns _ _ _ refl refl refl refl;
}
