use Rattle.std.proofs.Common.{refl}
use Rattle.worked_rows.proofs.Computed
use Rattle.worked_rows.proofs.calls.unsigned_sum.Goals as goal

pub returns : goal.returns
returns c = record {
  plainly = Computed.returns _ _ _ refl refl refl refl;
  at_words = Computed.returns _ _ _ refl refl refl refl;
  at_numbers = Computed.undefined _ _ _ refl refl;
}
