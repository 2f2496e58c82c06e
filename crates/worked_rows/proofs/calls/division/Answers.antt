use Rattle.std.proofs.Common.{refl}
use Rattle.worked_rows.proofs.Computed
use Rattle.worked_rows.proofs.calls.division.Goals as goal

pub returns : goal.returns
returns c = record {
  least_by_minus_one = Computed.undefined _ _ _ refl refl;
  least_modulo_minus_one = Computed.undefined _ _ _ refl refl;
  by_zero = Computed.undefined _ _ _ refl refl;
  modulo_zero = Computed.undefined _ _ _ refl refl;
  of_negative = Computed.returns _ _ _ refl refl refl refl;
  rest_of_negative = Computed.returns _ _ _ refl refl refl refl;
}
