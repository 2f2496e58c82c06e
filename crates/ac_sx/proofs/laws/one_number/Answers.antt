use Rattle.ac_sx.proofs.OneNumber.{one_number, parts_there}
use Rattle.ac_sx.proofs.laws.one_number.Goals as goal

pub returns : goal.returns
returns c = record {
  once = λ es table i j t. one_number t es table i j;
  list = λ es table i is at. (parts_there es table i is at).0;
  earlier = λ es table i is at. (parts_there es table i is at).1;
}
