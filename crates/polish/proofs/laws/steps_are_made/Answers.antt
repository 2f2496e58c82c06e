use Rattle.polish.proofs.Ends.{none_left, no_row_left}
use Rattle.polish.proofs.laws.steps_are_made.Goals as goal

pub returns : goal.returns
returns c = record {
  until_none_is_left = λ at m. none_left at m;
  all = λ g fs e o s h r k. no_row_left g fs e o s h r k;
}
