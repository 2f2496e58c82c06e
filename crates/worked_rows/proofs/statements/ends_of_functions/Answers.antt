use Rattle.std.proofs.Common.{refl}
use Rattle.worked_rows.proofs.Computed
use Rattle.worked_rows.proofs.statements.ends_of_functions.Goals as goal

pub returns : goal.returns
returns c = record {
  returned = Computed.returns _ _ _ refl refl refl refl;
  reached = Computed.undefined _ _ _ refl refl;
  void_returned = Computed.returns _ _ _ refl refl refl refl;
  void_reached = Computed.returns _ _ _ refl refl refl refl;
}
