use Rattle.generation.proofs.ExactUnits.{generated_has_same_ends, result_is_typed}
use Rattle.generation.proofs.laws.generated_has_the_same_ends.Goals as goal

pub returns : goal.returns
returns c = record {
  ends = generated_has_same_ends;
  results = result_is_typed;
}
