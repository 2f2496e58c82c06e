use Rattle.rule_heap.proofs.HeapTaken.{program_taken}
use Rattle.rule_heap.proofs.HeapFormed.{lifted_is_heaps, scalars_stay, unit_formed, unit_taken, unit_keeps}
use Rattle.rule_heap.proofs.laws.programs_are_lifted_to_heaps.Goals as goal

pub returns : goal.returns
returns c = record {
  taken = λ l m facts h. program_taken l m facts h;
  form = lifted_is_heaps;
  sorts = scalars_stay;
  formed = unit_formed;
  unit = unit_taken;
  kept = unit_keeps;
}
