use Rattle.std.proofs.Common.{refl}
use Rattle.std.specs.Fmt.{digits}
use Rattle.worked_rows.proofs.Computed
use Rattle.worked_rows.proofs.statements.switches.Goals as goal

pub returns : goal.returns
unfolding digits
returns c = record {
  first_label = Computed.returns _ _ _ refl refl refl refl;
  broken = Computed.returns _ _ _ refl refl refl refl;
  second_label_of_a_group = Computed.returns _ _ _ refl refl refl refl;
  no_label = Computed.returns _ _ _ refl refl refl refl;
  label_before_default = Computed.returns _ _ _ refl refl refl refl;
  label_after_default = Computed.returns _ _ _ refl refl refl refl;
  default = Computed.returns _ _ _ refl refl refl refl;
}
