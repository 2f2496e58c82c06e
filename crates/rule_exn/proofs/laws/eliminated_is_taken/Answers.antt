use Rattle.rule_exn.proofs.EliminatedTaken.{eliminated_taken, eliminated_flat}
use Rattle.rule_exn.proofs.EliminatedSorted.{eliminated_sorted}
use Rattle.rule_exn.proofs.laws.eliminated_is_taken.Goals as goal

pub returns : goal.returns
returns c = record {
  taken = eliminated_taken;
  flat = eliminated_flat;
  sorted = eliminated_sorted;
}
