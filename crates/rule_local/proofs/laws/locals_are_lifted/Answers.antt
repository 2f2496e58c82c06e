use Rattle.rule_local.specs.Lifted.{unit_lifted}
use Rattle.rule_local.proofs.LiftedWhole.{locals_lifted_taken}
use Rattle.rule_local.proofs.LiftedBytes.{locals_lifted_bytes}
use Rattle.rule_local.proofs.UnitsKeep.{units_keep_locals}
use Rattle.rule_local.proofs.UnitsLifted.{unit_is_taken}
use Rattle.rule_local.proofs.UnitsSorted.{unit_formed}
use Rattle.rule_local.proofs.laws.locals_are_lifted.Goals as goal

pub returns : goal.returns
returns c = record {
  taken = locals_lifted_taken;
  bytes = locals_lifted_bytes;
  unit = unit_is_taken;
  formed = unit_formed;
  kept = λ u h k. units_keep_locals u (unit_lifted u) h (unit_is_taken u h k);
}
