use Rattle.rule_heap.proofs.Standing.{taken_stands}
use Rattle.rule_heap.proofs.laws.taken_stands_for.Goals as goal

pub returns : goal.returns
returns c = λ u levels formed facts names given t left right takes bytes sorted calls. taken_stands u levels formed facts names given t left right takes bytes sorted calls
