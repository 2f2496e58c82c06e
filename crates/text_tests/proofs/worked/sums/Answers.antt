use Rattle.std.proofs.Common.{refl}
use Rattle.std.specs.Fmt.{digits}
use Rattle.text_tests.proofs.worked.sums.Goals as goal

pub returns : goal.returns
unfolding digits
returns c = record { one = refl; two = refl; none = refl }
