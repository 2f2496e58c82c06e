use Rattle.ac_sx.proofs.Deepest.{shallow_file}
use Rattle.ac_sx.proofs.Answered.{file_is_shallow}
use Rattle.ac_sx.proofs.laws.depth_is_nesting.Goals as goal

pub returns : goal.returns
returns c = λ t is. (file_is_shallow t is, shallow_file t is)
