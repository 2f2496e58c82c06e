use Rattle.rule_heap.proofs.UnitsKeep.{units_keep_heaps}
use Rattle.rule_heap.proofs.laws.units_taken_keep_heaps.Goals as goal

pub returns : goal.returns
returns c = units_keep_heaps
